-- The lists after a call: nothing is listed, or both lists are laid at their fronts.
use Prim.Native.Nat.{ℕ, ◌≤◌}
use native.Mathlib.Omega.{arith}
use mathlib.Core.Path.{◌≡◌, refl, sym, ap, ◌∙◌}
use mathlib.Core.Bool.{Bool, true, false, true≢false}
use mathlib.Core.List.{List, [], ◌++◌}
use lib.ListN.{length, drop}
use lib.Seq.{take_all}
use Rattle.text.specs.Laid.{Put}
use Rattle.text.proofs.Laid.{laid_zero}
use Rattle.graph.specs.Lists.{over}
use Rattle.search.specs.declared.Answer.{Answer}
use Rattle.search.specs.declared.Answer.TheVariants.{Route, NoRoute, Unfinished}
use Rattle.std.specs.Prelude.{Result, Ok, Err}
use Rattle.graph.specs.declared.refusal.Refusal.{Refusal}
use Rattle.search.specs.Reason.{numbers_of, is_reached, leaves, listed_at}
use Rattle.search.proofs.Numbers.{numbers_few}
use Rattle.graph.specs.declared.Size.{Size}
use Rattle.workspace.specs.Layout.{Words, vertices_of, graph_of}
use Rattle.workspace.proofs.Written.{length_vertices_of}
use Rattle.explanation.specs.Listing.{is_no_route, Source, reached_in, leaving_in, Lists}

listed : (a : Result Answer Refusal) (l : List ℕ) → is_no_route a ≡ true → listed_at a l ≡ l
unfolding is_no_route listed_at
listed (Ok (Route s)) l h = absurd (true≢false (sym h))
listed (Ok (NoRoute t)) l h = refl
listed (Ok (Unfinished t)) l h = absurd (true≢false (sym h))
listed (Err e) l h = absurd (true≢false (sym h))

unlisted : (a : Result Answer Refusal) (l : List ℕ) → is_no_route a ≡ false → listed_at a l ≡ []
unfolding is_no_route listed_at
unlisted (Ok (Route s)) l h = refl
unlisted (Ok (NoRoute t)) l h = absurd (true≢false h)
unlisted (Ok (Unfinished t)) l h = refl
unlisted (Err e) l h = refl

-- numbers put at a list's front, where it has room
put_over : {new old : List ℕ} {r : ℕ} {list : List ℕ} → Put 0 new old r list → length new ≤ length old → (r ≡ length new) × (list ≡ over new old)
unfolding over
put_over {new} {old} p h = (
  omega (arith, p.next),
  p.memory ∙ laid_zero new old ∙ ap (λ (l : List ℕ). l ++ drop (length new) old) (take_all (length old) new h),
)

module _ (a : Result Answer Refusal) (z : Size) (barred : ℕ) (m : Words) (vertices edges : List ℕ) where
  pub nothing_listed : is_no_route a ≡ false → Lists a z barred m vertices edges (record { answer = a; vertices = 0; edges = 0 }) vertices edges
  unfolding reached_in leaving_in over
  nothing_listed h =
      let v = unlisted a (numbers_of is_reached 0 (vertices_of z m)) h in
      let e = unlisted a (numbers_of (leaves barred (vertices_of z m)) 0 (graph_of z m.work)) h in
      record { answer_is = refl; vertex_count = rw v; edge_count = rw e; vertices_are = rw v; edges_are = rw e }

  pub both_listed :
      is_no_route a ≡ true → Source z m vertices edges → (v e : ℕ) (vertices' edges' : List ℕ) → Put 0 (numbers_of is_reached 0 (vertices_of z m)) vertices v vertices' →
      Put 0 (numbers_of (leaves barred (vertices_of z m)) 0 (graph_of z m.work)) edges e edges' →
      Lists a z barred m vertices edges (record { answer = a; vertices = v; edges = e }) vertices' edges'
  unfolding reached_in leaving_in
  both_listed h y v e vertices' edges' p q =
      let f = put_over p (omega (arith, numbers_few is_reached 0 (vertices_of z m), length_vertices_of z m, y.vertices_room)) in
      let g = put_over q (omega (arith, numbers_few (leaves barred (vertices_of z m)) 0 (graph_of z m.work), y.edge_count, y.edges_room)) in
      let i = listed a (numbers_of is_reached 0 (vertices_of z m)) h in
      let j = listed a (numbers_of (leaves barred (vertices_of z m)) 0 (graph_of z m.work)) h in
      record {
        answer_is = refl;
        vertex_count = rw i f.0;
        edge_count = rw j g.0;
        vertices_are = rw i f.1;
        edges_are = rw j g.1;
      }

-- two answers list the same
pub same_listed : (a b : Result Answer Refusal) (l k : List ℕ) → a ≡ b → (is_no_route a ≡ true → l ≡ k) → listed_at a l ≡ listed_at b k
same_listed a b l k q f = by (is_no_route a) refl ∙ ap (λ (y : Result Answer Refusal). listed_at y k) q
  where
    by : (t : Bool) → is_no_route a ≡ t → listed_at a l ≡ listed_at a k
    by true e = ap (listed_at a) (f e)
    by false e = unlisted a l e ∙ sym (unlisted a k e)
