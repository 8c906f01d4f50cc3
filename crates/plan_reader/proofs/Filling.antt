-- Laws for the code that stores a plan's edges into lists: a list after i edges, and after all.
use Prim.Native.Nat.{ℕ, suc, ◌+◌, ◌-◌, ◌≤◌, ◌<◌}
use native.Mathlib.Omega.{arith}
use native.Mathlib.Numerals.{add-one}
use mathlib.Core.Path.{◌≡◌, refl, sym, ap, ◌∙◌}
use mathlib.Core.Bool.{true, cond, ◌&&◌}
use lib.Dec.{leb}
use mathlib.Core.List.{List, map}
use lib.ListN.{length, set, length-set, length-map}
use lib.Seq.{sets}
use borrow.Author.Tests.{leb-true}
use Rattle.graph.specs.declared.Size.{Size}
use Rattle.graph.specs.declared.refusal.Cause.TheVariants as cause
use Rattle.graph.specs.declared.refusal.Refusal.{Refusal}
use Rattle.graph.specs.declared.Edge.{Edge}
use Rattle.graph.specs.declared.Cursor.{Cursor}
use Rattle.std.specs.Prelude.{Ok, Err}
use Rattle.graph.specs.Refusal.{refusal_of, size_of}
use Rattle.leb128.proofs.Result.{err≢ok, ok_parts}
use Rattle.graph.specs.Plan.{Decoded, first_at, next_edge, edges_from, header, after_header, decode, sizes}
use Rattle.graph.specs.Lists.{tail_of, head_of, cost_of, class_of, over, edges_in, room_for, read_as, read_answer, list_after}
use Rattle.graph.proofs.Tests.{and_true}
use Rattle.graph.proofs.Over.{sets_front}
use Rattle.plan_check.proofs.Checked.{sized_by, checked_sizes, Stored, stored_none, stored_next, first, has_next, rest_is, none_left}
use Rattle.plan_reader.specs.Stored.{SameLists, EdgeStored, HasRoom, AllStored}
use Rattle.plan_reader.specs.declared.lists.Lists.{Lists}

-- one list after i edges: the rest stored from here gives what all of them stored from the front give
pub record Column (v m : ℕ) (s : List ℕ) (at i : ℕ) (c : Cursor) (field : Edge → ℕ) (old new : List ℕ) : Type 0 where
  pub size : length new ≡ length old
  pub rest :
      sets new i (map field (edges_in (edges_from v (m - i) s c))) ≡ sets old 0 (map field (edges_in (edges_from v m s (first_at at))))

sub_zero : (m : ℕ) → m - 0 ≡ m
sub_zero m = omega arith

module _ (v m : ℕ) (s : List ℕ) (at : ℕ) where
  pub column_none : (field : Edge → ℕ) (old : List ℕ) → Column v m s at 0 (first_at at) field old old
  column_none field old =
      record { size = refl; rest = ap (λ (x : ℕ). sets old 0 (map field (edges_in (edges_from v x s (first_at at))))) (sub_zero m) }

  -- the next edge is there
  module _ (i : ℕ) (c : Cursor) (more : i < m) (h : Stored v m s i c) where
    pub column_next :
        (field : Edge → ℕ) (old new : List ℕ) → Column v m s at i c field old new →
        Column v m s at (suc i) (first v m s at i c more h).after field old (set new i (field (first v m s at i c more h).edge))
    column_next field old new k =
        record {
          size = length-set new i (field (first v m s at i c more h).edge) ∙ k.size;
          rest =
              ap (λ (es : List Edge). sets (set new i (field (first v m s at i c more h).edge)) (suc i) (map field es)) (rest_is v m s at i c more h)
              ∙ sym (ap (λ (es : List Edge). sets new i (map field es)) (first v m s at i c more h).all)
              ∙ k.rest;
        }

  -- all edges were stored
  module _ (i : ℕ) (c : Cursor) (All_there : m ≤ i) (h : Stored v m s i c) where
    pub column_all :
        (field : Edge → ℕ) (old new : List ℕ) → sizes (edges_from v m s (first_at at)) ≡ Ok (size_of v m) → m ≤ length old →
        Column v m s at i c field old new → new ≡ over (map field (edges_in (edges_from v m s (first_at at)))) old
    column_all field old new g room k =
        let es : List Edge = edges_in (edges_from v m s (first_at at)) in
        let l : length (map field es) ≡ m = length-map es field ∙ (sized_by (edges_from v m s (first_at at)) v m g).1 in
        sym (ap (λ (ds : List Edge). sets new i (map field ds)) (none_left v m s at i c All_there h))
        ∙ k.rest
        ∙ sets_front (map field es) old (omega arith)

-- all four lists after i edges
pub record Filling (v m : ℕ) (s : List ℕ) (at i : ℕ) (c : Cursor) (old new : Lists) : Type 0 where
  pub same : SameLists old new
  pub stored : Stored v m s i c
  pub tails : Column v m s at i c tail_of old.tails.now new.tails.now
  pub heads : Column v m s at i c head_of old.heads.now new.heads.now
  pub costs : Column v m s at i c cost_of old.costs.now new.costs.now
  pub classes : Column v m s at i c class_of old.classes.now new.classes.now

pub filled_none :
    (v m : ℕ) (s : List ℕ) (at : ℕ) (c : Cursor) (l : Lists) → c ≡ first_at at → sizes (edges_from v m s (first_at at)) ≡ Ok (size_of v m) →
    Filling v m s at 0 c l l
filled_none v m s at c l q h =
    rw q
    record {
      same = record { tails = refl; heads = refl; costs = refl; classes = refl };
      stored = stored_none v m s at h;
      tails = column_none v m s at tail_of l.tails.now;
      heads = column_none v m s at head_of l.heads.now;
      costs = column_none v m s at cost_of l.costs.now;
      classes = column_none v m s at class_of l.classes.now;
    }

module _ {v m : ℕ} {s : List ℕ} {at i : ℕ} {c : Cursor} {old new : Lists} (f : Filling v m s at i c old new) where
  pub none_refused : i < m → {r : Refusal} → next_edge v s c ≡ Err r → ⊥
  none_refused l d = err≢ok (sym d ∙ (has_next v m s at i c l f.stored).is)

  pub filled_next :
      i < m → {e : Edge} {c' : Cursor} {new' : Lists} → next_edge v s c ≡ Ok (e, c') → EdgeStored i e new new' →
      Filling v m s at (i + 1) c' old new'
  filled_next l {e} {c'} d w =
      let k = ok_parts (sym d ∙ (first v m s at i c l f.stored).is) in
      let p : c' ≡ (first v m s at i c l f.stored).after = k.1 in
      let q : e ≡ (first v m s at i c l f.stored).edge = k.0 in
      rw (add-one i, p)
      record {
        same =
            record {
              tails = w.same.tails ∙ f.same.tails;
              heads = w.same.heads ∙ f.same.heads;
              costs = w.same.costs ∙ f.same.costs;
              classes = w.same.classes ∙ f.same.classes;
            };
        stored = stored_next v m s at i c l f.stored;
        tails = rw (w.tails, q) (column_next v m s at i c l f.stored tail_of old.tails.now new.tails.now f.tails);
        heads = rw (w.heads, q) (column_next v m s at i c l f.stored head_of old.heads.now new.heads.now f.heads);
        costs = rw (w.costs, q) (column_next v m s at i c l f.stored cost_of old.costs.now new.costs.now f.costs);
        classes = rw (w.classes, q) (column_next v m s at i c l f.stored class_of old.classes.now new.classes.now f.classes);
      }

  pub filled_all :
      m ≤ i → sizes (edges_from v m s (first_at at)) ≡ Ok (size_of v m) → HasRoom m old → AllStored (edges_in (edges_from v m s (first_at at))) old new
  filled_all l g r =
      record {
        same = f.same;
        tails = column_all v m s at i c l f.stored tail_of old.tails.now new.tails.now g r.tails f.tails;
        heads = column_all v m s at i c l f.stored head_of old.heads.now new.heads.now g r.heads f.heads;
        costs = column_all v m s at i c l f.stored cost_of old.costs.now new.costs.now g r.costs f.costs;
        classes = column_all v m s at i c l f.stored class_of old.classes.now new.classes.now g r.classes f.classes;
      }

-- ---- the whole plan

-- the plan is whole
module _ (s : List ℕ) (z : Size) (at : ℕ) (x : Size) (h : header s ≡ Ok (z, at)) (q : sizes (edges_from z.vertices z.edges s (first_at at)) ≡ Ok x) where
  abbrev found : Decoded
  found = edges_from z.vertices z.edges s (first_at at)

  pub good : sizes found ≡ Ok z
  good = checked_sizes z.vertices z.edges s (first_at at) x.vertices x.edges q

  decoded : decode s ≡ found
  unfolding decode after_header
  decoded = rw h

  count : length (edges_in (decode s)) ≡ z.edges
  count = ap (λ (d : Decoded). length (edges_in d)) decoded ∙ (sized_by found z.vertices z.edges good).1

  pub answer_is : (ts hs cs ks : List ℕ) → read_answer s ts hs cs ks ≡ cond (room_for z.edges ts hs cs ks) (Ok z) (Err (refusal_of cause.Memory 0))
  unfolding read_answer read_as
  answer_is ts hs cs ks = rw (count, ap sizes decoded ∙ good)

  pub list_is : (field : Edge → ℕ) (old : List ℕ) → list_after field s old (Ok z) ≡ over (map field (edges_in found)) old
  unfolding list_after
  list_is field old = rw decoded

-- room in each list
pub room_each :
    (m : ℕ) (l : Lists) → room_for m l.tails.now l.heads.now l.costs.now l.classes.now ≡ true → HasRoom m l
unfolding room_for
room_each m l h =
    let ts : List ℕ = l.tails.now in
    let hs : List ℕ = l.heads.now in
    let cs : List ℕ = l.costs.now in
    let ks : List ℕ = l.classes.now in
    let r = and_true (leb m (length ts) && leb m (length hs) && leb m (length cs)) (leb m (length ks)) h in
    let q = and_true (leb m (length ts) && leb m (length hs)) (leb m (length cs)) r.0 in
    let p = and_true (leb m (length ts)) (leb m (length hs)) q.0 in
    record { tails = leb-true _ _ p.0; heads = leb-true _ _ p.1; costs = leb-true _ _ q.1; classes = leb-true _ _ r.1 }
