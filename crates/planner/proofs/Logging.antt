-- The log of one turn more.
use Prim.Native.Nat.{ℕ}
use mathlib.Core.Path.{◌≡◌, refl, sym, ap, ◌∙◌}
use mathlib.Core.List.{List, [], ◌∷◌, ◌++◌, map}
use lib.ListN.{length, set, take, length-map}
use lib.Seq.{take-nil}
use Rattle.graph.specs.Lists.{over}
use Rattle.search.specs.Rounds.{Moment}
use Rattle.search.specs.Outcome.{log_word, log_after}

laid_more : (ws old : List ℕ) (w : ℕ) → set (over (take (length old) ws) old) (length ws) w ≡ over (take (length old) (ws ++ (w ∷ []))) old
unfolding over
laid_more [] [] w = refl
laid_more [] (x ∷ old) w = rw (take-nil {A = ℕ} (length old)) refl
laid_more (v ∷ ws) [] w = refl
laid_more (v ∷ ws) (x ∷ old) w = ap (λ (l : List ℕ). v ∷ l) (laid_more ws old w)

map_append : (ts us : List Moment) → map log_word (ts ++ us) ≡ map log_word ts ++ map log_word us
map_append [] us = refl
map_append (t ∷ ts) us = ap (λ (l : List ℕ). log_word t ∷ l) (map_append ts us)

-- the turn after those of ts
pub log_more : (ts : List Moment) (t : Moment) (old : List ℕ) → set (log_after ts old) (length ts) (log_word t) ≡ log_after (ts ++ (t ∷ [])) old
unfolding log_after
log_more ts t old =
    ap (λ (k : ℕ). set (over (take (length old) (map log_word ts)) old) k (log_word t)) (sym (length-map ts log_word))
    ∙ laid_more (map log_word ts) old (log_word t)
    ∙ ap (λ (l : List ℕ). over (take (length old) l) old) (sym (map_append ts (t ∷ [])))
