-- Laws for the code that chooses: bounds of what is chosen, and the sheets.
use Prim.Native.Nat.{ℕ, zero, suc, ◌+◌, ◌*◌, ◌-◌, ◌≤◌, ◌<◌}
use mathlib.Core.Path.{◌≡◌, refl, sym, ap, ◌∙◌}
use mathlib.Core.Bool.{Bool, true, false, cond}
use mathlib.Core.List.{List, [], ◌∷◌}
use native.Mathlib.Nat.{suc-mul, zero-mul, not-suc-le-zero, le_of_suc-le-suc}
use native.Mathlib.Omega.{arith}
use borrow.Author.Tests.{eq-eqb, ne_eqb}
use lib.Dec.{leb}
use lib.ListN.{get_or, take, drop}
use lib.Seq.{drop-drop}
use Rattle.std.specs.Prelude.{Some, None}
use Rattle.search.specs.Turn.{Best, least, candidate, choose}
use Rattle.search.specs.declared.Choice.{Choice}
use Rattle.search.specs.declared.Vertex.{Vertex}
use Rattle.search.specs.Call.{tables}
use Rattle.search.specs.Bounds.{Within}
use Rattle.turn.specs.Asked.{sheet}

-- ---- bounds

module _ (n : ℕ) where
  -- what step 3 chooses is within bounds
  pub record Inside (i : ℕ) (c : Choice) : Type 0 where
    pub vertex : c.vertex < n
    pub heuristic : c.heuristic ≤ i

  pub choose_inside : (w2 m a i : ℕ) (b : Best) → Within n b → a < n → Inside i (choose w2 m a i b)
  unfolding choose
  choose_inside w2 m a i None h p = record { vertex = p; heuristic = omega arith }
  choose_inside w2 m a i (Some (k, s)) h p = go (leb (100 * k) (w2 * m))
    where
      go : (t : Bool) → Inside i (cond t (record { heuristic = i; vertex = s }) (record { heuristic = 0; vertex = a }))
      go true = record { vertex = h.vertex k s refl; heuristic = omega arith }
      go false = record { vertex = p; heuristic = omega arith }

-- ---- sheets

module _ (w1 : ℕ) (st : List Vertex) where
  pub candidate_none : (i : ℕ) (hs : List ℕ) → i ≡ 0 → candidate i w1 hs st ≡ None
  unfolding candidate
  candidate_none i hs e = simp (eq-eqb i 0 e)

  candidate_some : (i : ℕ) (hs : List ℕ) → (i ≡ 0 → ⊥) → candidate i w1 hs st ≡ least i w1 hs st
  unfolding candidate
  candidate_some i hs h = simp (ne_eqb i 0 h)

  -- the least of the part that holds sheet i
  pub candidate_part :
      (v i : ℕ) (l : List ℕ) (r : Best) → (i ≡ 0 → ⊥) →
      r ≡ least i w1 (take ((i - 1) * v + v - (i - 1) * v) (drop ((i - 1) * v) l)) st → r ≡ candidate i w1 (sheet v i l) st
  unfolding sheet
  candidate_part v i l r h e =
      let n : (i - 1) * v + v - (i - 1) * v ≡ v = omega arith in
      e ∙ ap (λ (k : ℕ). least i w1 (take k (drop ((i - 1) * v) l)) st) n ∙ sym (candidate_some i (sheet v i l) h)

  -- sheet i is heuristic i of the job
  get_d_tables : (v n : ℕ) (l : List ℕ) (i : ℕ) → i < n → get_or (tables v n l) i [] ≡ take v (drop (i * v) l)
  unfolding tables
  get_d_tables v zero l i h = absurd (not-suc-le-zero h)
  get_d_tables v (suc n) l zero h = rw zero-mul
  get_d_tables v (suc n) l (suc i) h =
      let e : v + i * v ≡ suc i * v = omega (arith, suc-mul i v) in
      get_d_tables v n (drop v l) i (le_of_suc-le-suc h) ∙ rw (drop-drop, e)

  pub candidate_sheet :
      (v n i : ℕ) (h l : List ℕ) → i ≤ n → candidate i w1 (sheet v i l) st ≡ candidate i w1 (get_or (h ∷ tables v n l) i []) st
  unfolding sheet
  candidate_sheet v n zero h l k = candidate_none 0 (sheet v 0 l) refl ∙ sym (candidate_none 0 h refl)
  candidate_sheet v n (suc i) h l k =
      let e : suc i - 1 ≡ i = omega arith in
      ap (λ (hs : List ℕ). candidate (suc i) w1 hs st) (rw e (sym (get_d_tables v n l i k)))
