-- What a verdict says of its call, for whoever asks for one.
use Prim.Native.Nat.{ℕ}
use native.Mathlib.Omega.{arith}
use mathlib.Core.Path.{◌≡◌, refl, sym, ap, ◌∙◌, subst}
use mathlib.Core.List.{List}
use lib.ListN.{length}
use Rattle.graph.specs.declared.refusal.Refusal.{Refusal}
use Rattle.graph.specs.declared.Edge.{Edge}
use Rattle.std.specs.Prelude.{Ok, Err}
use Rattle.graph.specs.Refusal.{Header, refusal_of, size_of}
use Rattle.graph.specs.Plan.{Decoded, accepted, refused, first_at, header, after_header, decode}
use Rattle.graph.specs.Lists.{Fault, none, fault, edges_in}
use Rattle.graph.proofs.Plan as laws
use Rattle.graph.proofs.Plan.{accepted≢refused, header_parts}
use Rattle.leb128.proofs.Result.{err≢ok}
use Rattle.search.specs.Call.{Call, fault_in, fault_of, plan_edges, job_in, job_from, job_of}
use Rattle.search.specs.Admitted.{Admissible}
use Rattle.search.proofs.Admitted.{clear}
use Rattle.admission.specs.Verdict.{Verdict, verdict}
use Rattle.admission.specs.Admission.{first_edge_at, verdict_of}

-- the header of a plan that is accepted
pub accepted_header :
    (s : List ℕ) (v : ℕ) (es : List Edge) → decode s ≡ accepted v es → header s ≡ Ok (size_of v (length es), first_edge_at (header s))
unfolding decode after_header first_edge_at
accepted_header s v es d = by (header s) refl
  where
    by : (h : Header) → header s ≡ h → h ≡ Ok (size_of v (length es), first_edge_at h)
    by (Ok (z, at)) e =
        let a = laws.accepts z.vertices s z.edges (first_at at) v es (sym (ap (after_header s) e) ∙ d) in
        rw (a.same, a.count)
    by (Err r) e = absurd (accepted≢refused (sym (ap (after_header s) e) ∙ d))

-- the call has no fault: its plan is accepted, with V vertices and M edges, the first at this offset, and no row holds
pub record Admits (c : Call) (v m at : ℕ) : Type 0 where
  pub header_is : header c.bytes ≡ Ok (size_of v m, at)
  pub edges : List Edge
  pub plan : decode c.bytes ≡ accepted v edges
  pub count : length edges ≡ m
  pub size : (job_of c).size ≡ v
  pub none : fault_of c ≡ none
  pub clear : Admissible c v edges

module _ (c : Call) (v m at : ℕ) where
  admits_by :
      (d : Decoded) → decode c.bytes ≡ d → (f : Fault) → fault_in c d ≡ f →
      verdict (job_from c d).size (length (edges_in d)) (first_edge_at (header c.bytes)) f ≡ Ok (size_of v m, at) → Admits c v m at
  unfolding verdict job_of job_from job_in edges_in fault_of fault_in
  admits_by (accepted w es) e none k h =
      let i = header_parts h in
      let a : w ≡ v = i.0 in
      let b : length es ≡ m = i.1 in
      let o : first_edge_at (header c.bytes) ≡ at = i.2 in
      subst (λ (x : ℕ). Admits c x m at) a
      (record {
        header_is = rw (b, o) at (accepted_header c.bytes w es e);
        edges = es;
        plan = e;
        count = b;
        size = rw e;
        none = rw e k;
        clear = clear c w es k;
      })
  admits_by (accepted w es) e (fault n p) k h = absurd (err≢ok h)
  admits_by (refused n p) e none k h = absurd (let z : ◌≡◌ {A = ℕ} 0 1 = cc in omega arith)
  admits_by (refused n p) e (fault i q) k h = absurd (err≢ok h)

  pub admits : verdict_of c ≡ Ok (size_of v m, at) → Admits c v m at
  unfolding verdict_of plan_edges fault_of job_of
  admits h = admits_by (decode c.bytes) refl (fault_in c (decode c.bytes)) refl h

refused_by : (w k at : ℕ) (r : Refusal) (f : Fault) → verdict w k at f ≡ Err r → f ≡ fault r.cause r.at
unfolding verdict
refused_by w k at r none h = absurd (err≢ok (sym h))
refused_by w k at r (fault n p) h = let z : refusal_of n p ≡ r = cc in ap (λ (e : Refusal). fault e.cause e.at) z

pub refuses : (c : Call) (r : Refusal) → verdict_of c ≡ Err r → fault_of c ≡ fault r.cause r.at
unfolding verdict_of
refuses c r h = refused_by (job_of c).size (length (plan_edges c)) (first_edge_at (header c.bytes)) r (fault_of c) h
