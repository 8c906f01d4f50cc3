-- Laws of the route in memory: its vertices are the words before the first that ends it, and what `keep` laid is read back.
use mathlib.Core.Path.{◌≡◌, refl, sym, ap, ◌∙◌}
use mathlib.Core.Logic.{◌≢◌}
use mathlib.Core.Bool.{Bool, true, false, cond, not}
use mathlib.Core.List.{List, [], ◌∷◌, ◌++◌, Memᴰ}
use Prim.Native.Nat.{ℕ, zero, suc, ◌-◌, ◌≤◌, ◌<◌}
use native.Mathlib.Omega.{arith}
use lib.ListN.{length, take, drop, replicate}
use lib.Seq.{take_at}
use lib.Dec.{eqb}
use borrow.Author.Tests.{eq-eqb, ne_eqb}
use Rattle.std.specs.List.{take_while}
use Rattle.std.proofs.lemmas.List.Sums.{take_while-cons}
use Rattle.graph.specs.declared.Edge.{Edge}
use Rattle.graph.specs.Lists.{over}
use Rattle.search.specs.Walk.{Walk, here, along}
use Rattle.search.specs.Job.{State, Job, route_end}
use Rattle.search.specs.Outcome.{route_words, route_after}
use Rattle.search.proofs.Words.{route_length}
use Rattle.route.specs.Kept.{up_to_end}

end_here : (x : ℕ) (r : List ℕ) → x ≡ route_end → up_to_end (x ∷ r) ≡ []
unfolding up_to_end
end_here x r e = rw (eq-eqb x route_end e)

not_here : (x : ℕ) (r : List ℕ) → x ≢ route_end → up_to_end (x ∷ r) ≡ x ∷ up_to_end r
unfolding up_to_end
not_here x r e = rw (ne_eqb x route_end e)

-- the vertices are the words before the first that ends a route
pub ahead_of_end : (l : List ℕ) → up_to_end l ≡ take_while (λ x. not (eqb x route_end)) l
unfolding up_to_end
ahead_of_end [] = refl
ahead_of_end (x ∷ l) = by (eqb x route_end) (ahead_of_end l) ∙ sym (take_while-cons (λ y. not (eqb y route_end)) x l)
  where
    by : (t : Bool) {r : List ℕ} → up_to_end l ≡ r → cond t [] (x ∷ up_to_end l) ≡ cond (not t) (x ∷ r) []
    by true e = refl
    by false e = ap (λ (s : List ℕ). x ∷ s) e

-- ---- what is laid is read back

-- all of them below v
unfoldable pub Below : ℕ → List ℕ → Type 0
Below v [] = Unit {0}
Below v (x ∷ r) = (x < v) × Below v r

-- the vertices of a walk
pub walk_below : (edges : List Edge) (v : ℕ) → ((e : Edge) → Memᴰ e edges → e.head < v) → {a b n : ℕ} {r : List ℕ} → Walk edges a b r n → a < v → Below v r
unfolding Below
walk_below edges v heads (here a) h = (h, tt)
walk_below edges v heads (along e m w) h = (h, walk_below edges v heads w (heads e m))

below_up : (v w : ℕ) (r : List ℕ) → v ≤ w → Below v r → Below w r
unfolding Below
below_up v w [] h b = tt
below_up v w (x ∷ r) h b = (omega (arith, b.0), below_up v w r h b.1)

ends_there : (r : List ℕ) (k : ℕ) → Below route_end r → up_to_end (r ++ replicate k route_end) ≡ r
unfolding Below up_to_end
ends_there [] zero b = refl
ends_there [] (suc k) b = end_here route_end (replicate k route_end) refl
ends_there (x ∷ r) k b = not_here x (r ++ replicate k route_end) (λ e. omega (arith, b.0)) ∙ ap (λ (l : List ℕ). x ∷ l) (ends_there r k b.1)

route_back : (v : ℕ) (r old : List ℕ) → length r ≤ v → Below route_end r → up_to_end (take v (over (route_words v r) old)) ≡ r
unfolding over route_words
route_back v r old h b =
    ap up_to_end (take_at (route_words v r) (drop (length (route_words v r)) old) v (route_length v r h)) ∙ ends_there r (v - length r) b

-- route memory after a search holds the incumbent, a walk over edges of at most V ≤ 4,294,967,295 vertices
pub incumbent_length :
    (job : Job) (s : State) (old w : List ℕ) → 0 < s.progress.rounds → length s.incumbent ≤ job.size → Below job.size s.incumbent →
    job.size ≤ route_end → w ≡ route_after job s old → length (up_to_end (take job.size w)) ≡ length s.incumbent
unfolding route_after
incumbent_length job s old w h short b small e =
    ap length
    (ap (λ (l : List ℕ). up_to_end (take job.size l)) (rw (ne_eqb s.progress.rounds 0 (λ q. omega arith)) at e)
    ∙ route_back job.size s.incumbent old short (below_up job.size route_end s.incumbent small b))
