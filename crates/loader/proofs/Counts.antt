-- Laws of first edge numbers as the loader counts them, one edge after another.
use mathlib.Core.Path.{◌≡◌, refl, sym, ap, ◌∙◌}
use mathlib.Core.List.{List, [], ◌∷◌, ◌++◌, append_assoc, append-nil}
use Prim.Native.Nat.{ℕ, zero, suc, ◌+◌, ◌-◌, ◌≤◌, ◌<◌}
use native.Mathlib.Nat.{add-zero, zero-add, suc-add, le_refl}
use native.Mathlib.Omega.{arith}
use borrow.Rule.Slice.PartMut.{put_mid, mid_of, mid_len, Post-is}
use lib.ListN.{length, take, drop, replicate, length-replicate, length-append, drop_of_length-le}
use lib.Seq.{sets, sets-eq, length-sets, length-take-le, take_at}
use Rattle.graph.specs.declared.Edge.{Edge}
use Rattle.search.specs.Outcome.{edges_below, first_edges}
use Rattle.workspace.specs.Holds.{Rising, then}
use Rattle.workspace.proofs.Firsts.{below_yes, below_none}

-- ---- the numbers of n vertices from t on, where j edges stand before these

unfoldable pub counts_from : ℕ → ℕ → ℕ → List Edge → List ℕ
counts_from j zero t es = []
counts_from j (suc n) t es = (j + edges_below t es) ∷ counts_from j n (suc t) es

pub counts_first : (n t : ℕ) (es : List Edge) → counts_from 0 n t es ≡ first_edges n t es
unfolding counts_from first_edges
counts_first zero t es = refl
counts_first (suc n) t es = cc (zero-add (edges_below t es), counts_first n (suc t) es)

counts_append : (j a b t : ℕ) (es : List Edge) → counts_from j (a + b) t es ≡ counts_from j a t es ++ counts_from j b (t + a) es
unfolding counts_from
counts_append j zero b t es = rw (zero-add, add-zero)
counts_append j (suc a) b t es =
    let e : suc t + a ≡ t + suc a = omega arith in
    rw (suc-add, counts_append j a b (suc t) es, e)

none_below : (j n t : ℕ) → counts_from j n t [] ≡ replicate n j
unfolding counts_from edges_below
none_below j zero t = refl
none_below j (suc n) t = rw (add-zero, none_below j n (suc t))

-- up to the first tail
counts_low : {v p : ℕ} (j n t : ℕ) (es : List Edge) → Rising v p es → t + n ≤ suc p → counts_from j n t es ≡ replicate n j
unfolding counts_from
counts_low j zero t es r h = refl
counts_low j (suc n) t es r h = rw (below_none t es r (omega arith), add-zero, counts_low j n (suc t) es r (omega arith))

-- past the first tail
counts_high : (j n t : ℕ) (e : Edge) (es : List Edge) → e.tail < t → counts_from j n t (e ∷ es) ≡ counts_from (suc j) n t es
unfolding counts_from
counts_high j zero t e es h = refl
counts_high j (suc n) t e es h =
    let q : j + suc (edges_below t es) ≡ suc j + edges_below t es = omega arith in
    rw (below_yes t e es h, q, counts_high j n (suc t) e es (omega arith))

-- ---- the numbers as a loader writes them: those after the tail p, before edge j

unfoldable pub firsts_from : ℕ → ℕ → ℕ → List Edge → List ℕ → List ℕ
firsts_from v j p [] f = sets f (p + 1) (replicate (v - p) j)
firsts_from v j p (e ∷ es) f = firsts_from v (suc j) e.tail es (sets f (p + 1) (replicate (e.tail - p) j))

-- n numbers written after the first k
sets_run : (k n j : ℕ) (f : List ℕ) → k + n ≤ length f → sets f k (replicate n j) ≡ (take k f ++ replicate n j) ++ drop (k + n) f
sets_run k n j f h =
    let l : length (replicate n j) ≡ n = length-replicate n j in
    sets-eq (replicate n j) f k (omega arith) ∙ ap (λ (i : ℕ). (take k f ++ replicate n j) ++ drop (k + i) f) l

-- the part from a up to e filled with j: what a `fill` leaves
pub filled_part :
    (a e j : ℕ) (f part : List ℕ) → a ≤ e → e ≤ length f → part ≡ replicate (length (mid_of a (e - a) f)) j →
    put_mid a (e - a) f part ≡ sets f a (replicate (e - a) j)
filled_part a e j f part h g q =
    let i : a + (e - a) ≡ e = omega arith in
    rw (q, mid_len a e f g, sets_run a (e - a) j f (omega arith), i, Post-is a e f h) (sym (append_assoc (take a f) (replicate (e - a) j) (drop e f)))

pub firsts_are :
    (v j p : ℕ) (es : List Edge) (f : List ℕ) → Rising v p es → p ≤ v → length f ≡ suc v →
    firsts_from v j p es f ≡ take (p + 1) f ++ counts_from j (v - p) (suc p) es
unfolding firsts_from
firsts_are v j p [] f r h l =
    let d : drop (p + 1 + (v - p)) f ≡ [] = drop_of_length-le f {i = p + 1 + (v - p)} (omega arith) in
    sets_run (p + 1) (v - p) j f (omega arith)
    ∙ rw (d, append-nil, none_below j (v - p) (suc p))
firsts_are v j p (e ∷ es) f (then a b r) h l =
    let bt : e.tail < v = b.tail in
    let n : ℕ = e.tail - p in
    let g : List ℕ = sets f (p + 1) (replicate n j) in
    let lg : length g ≡ suc v = length-sets f (p + 1) (replicate n j) ∙ l in
    let lt : length (take (p + 1) f ++ replicate n j) ≡ e.tail + 1 =
    length-append (take (p + 1) f) (replicate n j) ∙ omega (arith, length-take-le (p + 1) f (omega arith), length-replicate n j) in
    let front : take (e.tail + 1) g ≡ take (p + 1) f ++ replicate n j =
    ap (take (e.tail + 1)) (sets_run (p + 1) n j f (omega arith)) ∙ take_at (take (p + 1) f ++ replicate n j) (drop (p + 1 + n) f) (e.tail + 1) lt in
    let whole : n + (v - e.tail) ≡ v - p = omega arith in
    let from : suc p + n ≡ suc e.tail = omega arith in
    firsts_are v (suc j) e.tail es g r (omega arith) lg
    ∙ ap (λ (x : List ℕ). x ++ counts_from (suc j) (v - e.tail) (suc e.tail) es) front
    ∙ append_assoc (take (p + 1) f) (replicate n j) (counts_from (suc j) (v - e.tail) (suc e.tail) es)
    ∙ ap (λ (x : List ℕ). take (p + 1) f ++ x) (sym (split_counts n whole from))
  where
    split_counts :
        (n : ℕ) → n + (v - e.tail) ≡ v - p → suc p + n ≡ suc e.tail →
        counts_from j (v - p) (suc p) (e ∷ es) ≡ replicate n j ++ counts_from (suc j) (v - e.tail) (suc e.tail) es
    split_counts n whole from =
        ap (λ (k : ℕ). counts_from j k (suc p) (e ∷ es)) (sym whole)
        ∙ counts_append j n (v - e.tail) (suc p) (e ∷ es)
        ∙ ap (λ (x : List ℕ). x ++ counts_from j (v - e.tail) (suc p + n) (e ∷ es)) (counts_low j n (suc p) (e ∷ es) (then (le_refl e.tail) b r) (omega arith))
        ∙ ap (λ (k : ℕ). replicate n j ++ counts_from j (v - e.tail) k (e ∷ es)) from
        ∙ ap (λ (x : List ℕ). replicate n j ++ x) (counts_high j (v - e.tail) (suc e.tail) e es (omega arith))
