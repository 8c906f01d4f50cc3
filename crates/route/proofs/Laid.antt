-- Laws of route memory: the trace laid from the back, the words after it, and both as the words of a route.
use mathlib.Core.Path.{◌≡◌, refl, sym, ap, ◌∙◌}
use mathlib.Core.List.{List, [], ◌∷◌, ◌++◌, append_assoc}
use Prim.Native.Nat.{ℕ, zero, suc, ◌+◌, ◌-◌, ◌≤◌, ◌<◌}
use native.Mathlib.Omega.{arith}
use lib.ListN.{length, set, take, drop, replicate, length-set, length-append, length-drop, length-replicate}
use lib.Seq.{length-take-le, drop-cons, drop-set-lt, get_or-set_same, take_at, drop_at, drop-drop}
use borrow.Rule.Slice.PartMut.{put_mid}
use Rattle.graph.specs.Lists.{over}
use Rattle.search.specs.Job.{route_end}
use Rattle.search.specs.Rounds.{trace}
use Rattle.search.specs.Outcome.{route_words}
use Rattle.search.proofs.Tools.{same_cases}
use Rattle.graph.specs.declared.Size.{Size}
use Rattle.workspace.specs.Layout.{pred_of}
use Rattle.route.specs.Trace.{traced_in}
use Rattle.route.proofs.Traces.{trace_stop, trace_go, trace_none}
use Rattle.route.specs.Backs.{backs}

-- ---- predecessors by their number

module _ (pred : ℕ → ℕ) where
  length_backs : (n x : ℕ) (r : List ℕ) → length (backs pred n x r) ≡ n + length r
  unfolding backs
  length_backs zero x r = omega arith
  length_backs (suc n) x r = omega (arith, length_backs n (pred x) (x ∷ r))

  backs_before : (n x : ℕ) (r : List ℕ) → backs pred n x r ≡ backs pred n x [] ++ r
  unfolding backs
  backs_before zero x r = refl
  backs_before (suc n) x r =
      let p = pred x in
      backs_before n p (x ∷ r) ∙ sym (append_assoc (backs pred n p []) (x ∷ []) r) ∙ ap (λ (l : List ℕ). l ++ r) (sym (backs_before n p (x ∷ [])))

  module _ (start : ℕ) where
    length_trace : (n x : ℕ) (r : List ℕ) → length (trace pred start n x r) ≡ length (trace pred start n x []) + length r
    length_trace zero x r = rw (trace_none pred start x r, trace_none pred start x []) (omega arith)
    length_trace (suc n) x r =
        same_cases x start
        (λ e. rw (trace_stop pred start n x r e, trace_stop pred start n x [] e) (omega arith))
        (λ e. rw (trace_go pred start n x r e, trace_go pred start n x [] e) (omega (arith, length_trace n (pred x) (x ∷ r), length_trace n (pred x) (x ∷ []))))

    length_traced : (n x : ℕ) → length (trace pred start n x []) ≤ n
    length_traced zero x = rw (trace_none pred start x []) (omega arith)
    length_traced (suc n) x =
        same_cases x start
        (λ e. rw (trace_stop pred start n x [] e) (omega arith))
        (λ e. rw (trace_go pred start n x [] e) (omega (arith, length_traced n (pred x), length_trace n (pred x) (x ∷ []))))

    trace_backs : (n x : ℕ) (r : List ℕ) → trace pred start n x r ≡ backs pred (length (trace pred start n x [])) x r
    unfolding backs
    trace_backs zero x r = rw (trace_none pred start x r, trace_none pred start x [])
    trace_backs (suc n) x r =
        same_cases x start
        (λ e. rw (trace_stop pred start n x r e, trace_stop pred start n x [] e))
        (λ e.
        let p = pred x in
        let l : length (trace pred start n p (x ∷ [])) ≡ suc (length (trace pred start n p [])) = omega (arith, length_trace n p (x ∷ [])) in
        rw (trace_go pred start n x r e, trace_go pred start n x [] e, l) (trace_backs n p (x ∷ r)))

    -- the trace is the goal and its predecessors, by their number
    traced_backs : (v goal n : ℕ) → n ≡ length (trace pred start v goal []) → backs pred n goal [] ≡ trace pred start v goal []
    traced_backs v goal n e = rw e (sym (trace_backs v goal []))

  -- ---- the loop that lays n vertices from the back: r₀ before it, r with those from word i on

  pub record Laying (n goal : ℕ) (r₀ r : List ℕ) (i x : ℕ) : Type 0 where
    pub ahead : backs pred i x (drop i r) ≡ backs pred n goal (drop n r₀)

  module _ (n goal : ℕ) (r₀ r : List ℕ) (i x : ℕ) (k : Laying n goal r₀ r i x) where
    pub laying_more : (y : ℕ) → 0 < i → i ≤ length r → y ≡ pred x → Laying n goal r₀ (set r (i - 1) x) (i - 1) y
    unfolding backs
    laying_more y h room e =
        let s : i ≡ suc (i - 1) = omega arith in
        let l : i - 1 < length r = omega arith in
        let m : i - 1 < length (set r (i - 1) x) = rw length-set l in
        let d : drop (i - 1) (set r (i - 1) x) ≡ x ∷ drop (suc (i - 1)) r =
        rw (drop-cons (set r (i - 1) x) (i - 1) 0 m, get_or-set_same r (i - 1) x 0 l, drop-set-lt (suc (i - 1)) r (i - 1) x (omega arith)) in
        record { ahead = rw (d, e) (rw s at k.ahead) }

    pub laying_all : i ≡ 0 → r ≡ over (backs pred n goal []) r₀
    unfolding over backs
    laying_all h =
        let l : length (backs pred n goal []) ≡ n = omega (arith, length_backs n goal []) in
        rw l (rw h at k.ahead ∙ backs_before n goal (drop n r₀))

-- a route laid, and then the words that end it
ended_route :
    (v : ℕ) (t old : List ℕ) → length t ≤ v → v ≤ length old →
    put_mid (length t) (v - length t) (over t old) (replicate (v - length t) route_end) ≡ over (route_words v t) old
unfolding over route_words
ended_route v t old h room =
    let n : ℕ = length t in
    let e : List ℕ = replicate (v - n) route_end in
    let le : length e ≡ v - n = length-replicate (v - n) route_end in
    let lw : length (t ++ e) ≡ n + (v - n) = length-append t e ∙ ap (λ (m : ℕ). n + m) le in
    rw (take_at t (drop n old) n refl, drop_at t (drop n old) n refl, drop-drop (v - n) n old, lw) (sym (append_assoc t e (drop (n + (v - n)) old)))

-- ---- the trace, as work memory has it

module _ (z : Size) (w : List ℕ) (start goal : ℕ) where
  pub traced_in_most : length (traced_in z w start goal) ≤ z.vertices
  unfolding traced_in
  traced_in_most = length_traced (pred_of z w) start z.vertices goal

  module _ (old laid r : List ℕ) (n : ℕ) (e : n ≡ length (traced_in z w start goal)) (f : laid ≡ over (backs (pred_of z w) n goal []) old)
      (long : length laid ≡ length old) where
    pub laid_traced : laid ≡ over (traced_in z w start goal) old
    unfolding traced_in
    laid_traced = rw (f, traced_backs (pred_of z w) start z.vertices goal n e)

    -- and after it, up to word V, the words that end a route
    pub laid_whole :
        z.vertices ≤ length old → r ≡ replicate (length (take (z.vertices - n) (drop n laid))) route_end →
        put_mid n (z.vertices - n) laid r ≡ over (route_words z.vertices (traced_in z w start goal)) old
    laid_whole room g =
        let q : length (take (z.vertices - n) (drop n laid)) ≡ z.vertices - n = length-take-le (z.vertices - n) (drop n laid) (omega (arith, length-drop n laid, long)) in
        rw (g, q, laid_traced, e) (ended_route z.vertices (traced_in z w start goal) old traced_in_most room)
