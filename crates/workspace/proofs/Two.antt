-- Laws of the two numbers of each vertex in either memory: vertices laid over a list, one of them stored; and read back from both.
use mathlib.Core.Path.{◌≡◌, refl, sym, ap, ◌∙◌}
use Rattle.std.specs.Int.{from_bool}
use mathlib.Core.Bool.{Bool, true, false, cond}
use mathlib.Core.List.{List, [], ◌∷◌, ◌++◌}
use Prim.Native.Nat.{ℕ, zero, suc, ◌+◌, ◌*◌, ◌≤◌, ◌<◌}
use native.Mathlib.Nat.{not-suc-le-zero, le_of_suc-le-suc, add_assoc}
use native.Mathlib.Omega.{arith}
use lib.ListN.{length, set, drop, length-drop, replicate}
use lib.Seq.{get_or-drop, drop-drop}
use Rattle.graph.specs.Lists.{over}
use Rattle.search.specs.declared.Vertex.{Vertex}
use Rattle.search.specs.Job.{at}
use Rattle.search.specs.Outcome.{mark_word, two_each, vertex_words, wide_words}
use Rattle.workspace.specs.Layout.{has_mark, vertex_at, vertices_in, with_two}

-- ---- laying vertices over a list

module _ (f g : Vertex → ℕ) where
  -- the first vertex, and the others over what follows it
  over_cons : (p : Vertex) (ps : List Vertex) (w : List ℕ) → over (two_each f g (p ∷ ps)) w ≡ f p ∷ g p ∷ over (two_each f g ps) (drop 2 w)
  unfolding over two_each
  over_cons p ps w =
      let n : ℕ = length (two_each f g ps) in
      let e : 2 + n ≡ suc (suc n) = omega arith in
      let d : drop (suc (suc n)) w ≡ drop n (drop 2 w) = ap (λ (k : ℕ). drop k w) (sym e) ∙ sym (drop-drop n 2 w) in
      ap (λ (l : List ℕ). f p ∷ g p ∷ two_each f g ps ++ l) d

  pub over_none : (w : List ℕ) → over (two_each f g []) w ≡ w
  unfolding over two_each
  over_none w = refl

  pub length_over : (st : List Vertex) (w : List ℕ) → 2 * length st ≤ length w → length (over (two_each f g st) w) ≡ length w
  length_over [] w h = ap length (over_none w)
  length_over (p ∷ ps) w h =
      let l : 2 * length ps ≤ length (drop 2 w) = simp length-drop (omega arith) in
      ap length (over_cons p ps w) ∙ omega (arith, length_over ps (drop 2 w) l, length-drop 2 w)

  pub over_over : (st su : List Vertex) (w : List ℕ) → length st ≡ length su → over (two_each f g st) (over (two_each f g su) w) ≡ over (two_each f g st) w
  over_over [] [] w e = over_none (over (two_each f g []) w)
  over_over [] (q ∷ qs) w e = absurd (omega arith)
  over_over (p ∷ ps) [] w e = absurd (omega arith)
  over_over (p ∷ ps) (q ∷ qs) w e =
      ap (over (two_each f g (p ∷ ps))) (over_cons q qs w)
      ∙ over_cons p ps (f q ∷ g q ∷ over (two_each f g qs) (drop 2 w))
      ∙ ap (λ (l : List ℕ). f p ∷ g p ∷ l) (over_over ps qs (drop 2 w) (omega arith))
      ∙ sym (over_cons p ps w)

-- ---- one vertex stored

two_past : (a b : ℕ) (r : List ℕ) (o x y : ℕ) → with_two (a ∷ b ∷ r) (2 + o) x y ≡ a ∷ b ∷ with_two r o x y
unfolding with_two
two_past a b r o x y =
    let e0 : 2 + o ≡ suc (suc o) = omega arith in
    let e1 : suc (suc o) + 1 ≡ suc (suc (o + 1)) = omega arith in
    rw (e0, e1)

first_stored : (a b : ℕ) (r : List ℕ) (x y : ℕ) → with_two (a ∷ b ∷ r) (2 * 0) x y ≡ x ∷ y ∷ r
unfolding with_two
first_stored a b r x y = refl

module _ (f g : Vertex → ℕ) where
  pub over_set :
      (st : List Vertex) (w : List ℕ) (p : ℕ) (x : Vertex) → p < length st →
      over (two_each f g (set st p x)) w ≡ with_two (over (two_each f g st) w) (2 * p) (f x) (g x)
  over_set [] w p x h = absurd (not-suc-le-zero h)
  over_set (q ∷ qs) w zero x h =
      over_cons f g x qs w ∙ sym (ap (λ (l : List ℕ). with_two l (2 * 0) (f x) (g x)) (over_cons f g q qs w) ∙ first_stored _ _ _ (f x) (g x))
  over_set (q ∷ qs) w (suc p) x h =
      let e : 2 * suc p ≡ 2 + 2 * p = omega arith in
      rw (e, over_cons f g q qs w, over_cons f g q (set qs p x) w, two_past, over_set qs (drop 2 w) p x (le_of_suc-le-suc h))

  -- one vertex more from the front, all the same
  pub over_more :
      (n : ℕ) (x : Vertex) (w : List ℕ) → 2 * suc n ≤ length w →
      with_two (over (two_each f g (replicate n x)) w) (2 * n) (f x) (g x) ≡ over (two_each f g (replicate (suc n) x)) w
  over_more zero x [] h = absurd (omega arith)
  over_more zero x (a ∷ []) h = absurd (omega arith)
  over_more zero x (a ∷ b ∷ w) h =
      rw (over_none f g (a ∷ b ∷ w), over_cons f g x [] (a ∷ b ∷ w), over_none f g w) (first_stored a b w (f x) (g x))
  over_more (suc n) x w h =
      let e : 2 * suc n ≡ 2 + 2 * n = omega arith in
      let l : 2 * suc n ≤ length (drop 2 w) = simp length-drop (omega arith) in
      rw (e, over_cons f g x (replicate n x) w, over_cons f g x (replicate (suc n) x) w, two_past, over_more n x (drop 2 w) l)

-- ---- the marks

record Marks (a b c d : Bool) (m : ℕ) : Type 0 where
  one : has_mark 1 m ≡ a
  two : has_mark 2 m ≡ b
  four : has_mark 4 m ≡ c
  eight : has_mark 8 m ≡ d

marks_back : (a b c d : Bool) → Marks a b c d (cond a 1 0 + cond b 2 0 + cond c 4 0 + cond d 8 0)
marks_back true true true true = record { one = refl; two = refl; four = refl; eight = refl }
marks_back true true true false = record { one = refl; two = refl; four = refl; eight = refl }
marks_back true true false true = record { one = refl; two = refl; four = refl; eight = refl }
marks_back true true false false = record { one = refl; two = refl; four = refl; eight = refl }
marks_back true false true true = record { one = refl; two = refl; four = refl; eight = refl }
marks_back true false true false = record { one = refl; two = refl; four = refl; eight = refl }
marks_back true false false true = record { one = refl; two = refl; four = refl; eight = refl }
marks_back true false false false = record { one = refl; two = refl; four = refl; eight = refl }
marks_back false true true true = record { one = refl; two = refl; four = refl; eight = refl }
marks_back false true true false = record { one = refl; two = refl; four = refl; eight = refl }
marks_back false true false true = record { one = refl; two = refl; four = refl; eight = refl }
marks_back false true false false = record { one = refl; two = refl; four = refl; eight = refl }
marks_back false false true true = record { one = refl; two = refl; four = refl; eight = refl }
marks_back false false true false = record { one = refl; two = refl; four = refl; eight = refl }
marks_back false false false true = record { one = refl; two = refl; four = refl; eight = refl }
marks_back false false false false = record { one = refl; two = refl; four = refl; eight = refl }

-- ---- reading

-- a vertex's words and numbers give the vertex again
vertex_back : (p : Vertex) (r s : List ℕ) → vertex_at (p.pred ∷ mark_word p ∷ r) 0 (p.g ∷ p.v ∷ s) 0 ≡ p
unfolding vertex_at mark_word
vertex_back p r s =
    let f = marks_back p.inad p.anchor p.opened p.incons in
    rw (f.one, f.two, f.four, f.eight)

pub vertices_over : (st : List Vertex) (w u : List ℕ) → vertices_in (length st) (over (vertex_words st) w) (over (wide_words st) u) ≡ st
unfolding vertices_in
vertices_over [] w u = refl
vertices_over (p ∷ ps) w u =
    let r : List ℕ = over (vertex_words ps) (drop 2 w) in
    let s : List ℕ = over (wide_words ps) (drop 2 u) in
    rw (over_cons (λ (x : Vertex). x.pred) mark_word p ps w, over_cons (λ (x : Vertex). x.g) (λ (x : Vertex). x.v) p ps u)
    (cc (vertex_back p r s, vertices_over ps (drop 2 w) (drop 2 u)))

pub length_vertices : (n : ℕ) (w u : List ℕ) → length (vertices_in n w u) ≡ n
unfolding vertices_in
length_vertices zero w u = refl
length_vertices (suc n) w u = ap suc (length_vertices n (drop 2 w) (drop 2 u))

vertex_at_drop : (k : ℕ) (w u : List ℕ) (o : ℕ) → vertex_at (drop k w) o (drop k u) o ≡ vertex_at w (k + o) u (k + o)
unfolding vertex_at
vertex_at_drop k w u o = simp (get_or-drop, ← add_assoc)

pub at_vertices : (n : ℕ) (w u : List ℕ) (p : ℕ) → p < n → at (vertices_in n w u) p ≡ vertex_at w (2 * p) u (2 * p)
unfolding vertices_in at
at_vertices zero w u p h = absurd (not-suc-le-zero h)
at_vertices (suc n) w u zero h = refl
at_vertices (suc n) w u (suc p) h =
    let e : 2 + 2 * p ≡ 2 * suc p = omega arith in
    at_vertices n (drop 2 w) (drop 2 u) p (le_of_suc-le-suc h)
    ∙ vertex_at_drop 2 w u (2 * p)
    ∙ ap (λ (k : ℕ). vertex_at w k u k) e

-- ---- marks

-- a mark as a number
pub mark_is : (k : ℕ) (b : Bool) → k * from_bool b ≡ cond b k 0
mark_is k true = omega arith
mark_is k false = omega arith

pub marks_are :
    (x : Vertex) (a b c d : ℕ) → a ≡ from_bool x.inad → b ≡ from_bool x.anchor → c ≡ from_bool x.opened → d ≡ from_bool x.incons →
    a + 2 * b + 4 * c + 8 * d ≡ mark_word x
unfolding mark_word
marks_are x a b c d e f g h =
    omega (arith, e, f, g, h, mark_is 1 x.inad, mark_is 2 x.anchor, mark_is 4 x.opened, mark_is 8 x.incons)
