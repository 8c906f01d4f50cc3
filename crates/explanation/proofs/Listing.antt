-- The loops that list vertices and edges: those before the next one are listed, and at the end all are.
use Prim.Native.Nat.{ℕ, suc, ◌+◌, ◌-◌, ◌≤◌, ◌<◌}
use native.Mathlib.Nat.{zero-add}
use native.Mathlib.Numerals.{add-one}
use native.Mathlib.Omega.{arith}
use mathlib.Core.Path.{◌≡◌, refl, ap, ◌∙◌, subst}
use mathlib.Core.Bool.{Bool, true, false, cond}
use mathlib.Core.List.{List, [], ◌∷◌, ◌++◌}
use lib.ListN.{length, take}
use lib.Seq.{take-suc, take_all, length-take-le}
use Rattle.text.specs.Laid.{Put}
use Rattle.text.proofs.Laid.{put_nil, then_put, put_length}
use Rattle.graph.specs.declared.Edge.{Edge}
use Rattle.search.specs.declared.Vertex.{Vertex}
use Rattle.search.specs.Job.{fresh, at}
use Rattle.search.specs.Reason.{numbers_of, is_reached}
use Rattle.search.proofs.Numbers.{numbers_append, numbers_few}
use Rattle.graph.specs.declared.Size.{Size}
use Rattle.workspace.proofs.Numbered.{length_run, run_more, under_more, length_under}
use Rattle.workspace.specs.Layout.{first_of, edge_at, edges_run, edges_at, edges_under, graph_of, Whole}
use Rattle.explanation.specs.declared.listed.Listed.{Listed}
use Rattle.explanation.specs.Listing.{Adds}

-- ---- numbers listed one after another

-- none
adds_none : (l : Listed) → Adds [] l l
adds_none l = record { lent = refl; put = put_nil l.count l.words.now }

adds_then : {a b : List ℕ} {l m n : Listed} → Adds a l m → Adds b m n → Adds (a ++ b) l n
adds_then p q = record { lent = q.lent ∙ p.lent; put = then_put p.put q.put }

-- the list when its words are handed back
pub handed_back : {numbers : List ℕ} {l m : Listed} (words : List ℕ) → Adds numbers l m → words ≡ m.words.now → Put l.count numbers l.words.now m.count words
handed_back words p e = rw e p.put

-- one number more, if the element passes the test
module _ {A : Type 0} (test : A → Bool) (xs : List A) (x : A) where
  one_more : (k n : ℕ) {l m e : Listed} → k + length xs ≡ n → Adds (numbers_of test k xs) l m → Adds (cond (test x) (n ∷ []) []) m e →
      Adds (numbers_of test k (xs ++ (x ∷ []))) l e
  unfolding numbers_of
  one_more k n e first second = rw (numbers_append test k xs (x ∷ []), e) (adds_then first second)

-- ---- vertices

-- those before number s are listed after those of l
pub record ListedTo (st : List Vertex) (l m : Listed) (s : ℕ) : Type 0 where
  pub adds : Adds (numbers_of is_reached 0 (take s st)) l m
  pub inside : s ≤ length st

module _ (st : List Vertex) (l : Listed) where
  pub listed_none : ListedTo st l l 0
  unfolding numbers_of
  listed_none = record { adds = adds_none l; inside = omega arith }

  module _ (m : Listed) (s : ℕ) (k : ListedTo st l m s) where
    pub listed_few : m.count ≤ l.count + s
    listed_few = omega (arith, k.adds.put.next, numbers_few is_reached 0 (take s st), length-take-le s st k.inside)

    pub listed_room : l.count + length st ≤ length l.words.now → s < length st → m.count < length m.words.now
    listed_room r h = omega (arith, listed_few, put_length k.adds.put)

    next : (b : Bool) (e : Listed) → s < length st → b ≡ is_reached (at st s) → Adds (cond b (s ∷ []) []) m e → ListedTo st l e (s + 1)
    unfolding at
    next b e h q p =
        record {
          adds =
              rw (add-one s, take-suc st s fresh h)
              (one_more is_reached (take s st) (at st s) 0 s (zero-add _ ∙ length-take-le s st k.inside) k.adds (rw q at p));
          inside = omega arith;
        }

    -- vertex s is listed, or passed over
    module _ (b : Bool) (h : s < length st) (q : b ≡ is_reached (at st s)) where
      pub vertex_listed : b ≡ true → (e : Listed) → Adds (s ∷ []) m e → ListedTo st l e (s + 1)
      vertex_listed t e p = next b e h q (rw t p)

      pub vertex_passed : b ≡ false → ListedTo st l m (s + 1)
      vertex_passed t = next b m h q (rw t (adds_none m))

    pub listed_all : length st ≤ s → Adds (numbers_of is_reached 0 st) l m
    listed_all h = rw (take_all s st h) at k.adds

-- ---- the edges of a tail

module _ (z : Size) (w : List ℕ) where
  -- those before number j are listed after those of l
  pub record RunListed (test : Edge → Bool) (t first : ℕ) (l m : Listed) (j : ℕ) : Type 0 where
    pub adds : Adds (numbers_of test first (edges_run z w t (j - first) first)) l m
    pub from : first ≤ j

  module _ (test : Edge → Bool) (t first : ℕ) (l : Listed) where
    pub run_none : RunListed test t first l l first
    unfolding numbers_of edges_run
    run_none = let e : first - first ≡ 0 = omega arith in record { adds = rw e (adds_none l); from = omega arith }

    module _ (m : Listed) (j : ℕ) (k : RunListed test t first l m j) where
      pub run_few : l.count ≤ first → m.count ≤ j
      run_few h =
          omega (arith, k.adds.put.next, k.from, numbers_few test first (edges_run z w t (j - first) first), length_run z w t (j - first) first)

      pub run_room : l.count ≤ first → j < length l.words.now → m.count < length m.words.now
      run_room h r = omega (arith, run_few h, put_length k.adds.put)

      next_edge : (b : Bool) (e : Listed) → b ≡ test (edge_at z w t j) → Adds (cond b (j ∷ []) []) m e → RunListed test t first l e (j + 1)
      next_edge b e h p =
          let q : j + 1 - first ≡ suc (j - first) = omega (arith, k.from) in
          let i : first + (j - first) ≡ j = omega (arith, k.from) in
          record {
            adds =
                rw (q, run_more z w t (j - first) first, i)
                (one_more test (edges_run z w t (j - first) first) (edge_at z w t j) first j (ap (λ (n : ℕ). first + n) (length_run z w t (j - first) first) ∙ i) k.adds (rw h at p));
            from = omega (arith, k.from);
          }

      -- edge j is listed, or passed over
      module _ (b : Bool) (h : b ≡ test (edge_at z w t j)) where
        pub edge_listed : b ≡ true → (e : Listed) → Adds (j ∷ []) m e → RunListed test t first l e (j + 1)
        edge_listed q e p = next_edge b e h (rw q p)

        pub edge_passed : b ≡ false → RunListed test t first l m (j + 1)
        edge_passed q = next_edge b m h (rw q (adds_none m))

      pub run_all :
          (end : ℕ) → end ≤ j → j ≤ end → first ≡ first_of w t → end ≡ first_of w (t + 1) →
          Adds (numbers_of test (first_of w t) (edges_at z w t)) l m
      unfolding edges_at
      run_all end g h e f =
          let q : j ≡ first_of w (suc t) = omega (arith, rw (add-one t) at f) in
          rw (← e, ← q) k.adds

-- ---- all edges

module _ (z : Size) (w : List ℕ) where
  -- those of the tails before number t are listed after those of l
  pub record TailsListed (test : Edge → Bool) (l m : Listed) (t : ℕ) : Type 0 where
    pub adds : Adds (numbers_of test 0 (edges_under z w t 0)) l m
    pub inside : t ≤ z.vertices

  pub tails_none : (test : Edge → Bool) (l : Listed) → TailsListed test l l 0
  unfolding numbers_of edges_under
  tails_none test l = record { adds = adds_none l; inside = omega arith }

  module _ (r : Whole z w) where
    module _ (test : Edge → Bool) (l m : Listed) (t : ℕ) (k : TailsListed test l m t) where
      pub tails_few : m.count ≤ l.count + first_of w t
      tails_few = omega (arith, k.adds.put.next, numbers_few test 0 (edges_under z w t 0), length_under z w r t k.inside)

      -- the words have the length that they had
      pub tails_length : length m.words.now ≡ length l.words.now
      tails_length = put_length k.adds.put

      pub tails_next : (e : Listed) → t < z.vertices → Adds (numbers_of test (first_of w t) (edges_at z w t)) m e → TailsListed test l e (t + 1)
      tails_next e h p =
          record {
            adds =
                rw (add-one t, under_more z w t 0, zero-add t, numbers_append test 0 (edges_under z w t 0) (edges_at z w t), zero-add (length (edges_under z w t 0)), length_under z w r t k.inside)
                (adds_then k.adds p);
            inside = omega arith;
          }

      pub tails_all : z.vertices ≤ t → Adds (numbers_of test 0 (graph_of z w)) l m
      unfolding graph_of
      tails_all h =
          let e : t ≡ z.vertices = omega (arith, k.inside) in
          subst (λ (n : ℕ). Adds (numbers_of test 0 (edges_under z w n 0)) l m) e k.adds
