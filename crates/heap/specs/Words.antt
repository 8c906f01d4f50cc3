-- A heap's words, v positions and v entries of two words each, and what is done with them: for contracts inside the planner call, nothing that a reader must believe.
use Rattle.std.specs.Prelude.{ℕ, zero, suc, ◌+◌, ◌-◌, ◌*◌, ◌/◌, ◌%◌, Bool, true, false, cond, Option, Some, None, List, get_or, set, ltb, leb, eqb}

-- the position of a vertex that the heap does not hold
abbrev pub nowhere : ℕ
nowhere = 4294967295

-- what one of the high word counts
abbrev pub word : ℕ
word = 4294967296

-- an entry is key · 4,096 + vertex: so equal keys go by vertex
abbrev pub packed : ℕ → ℕ → ℕ
packed k s = k * 4096 + s

abbrev pub vertex_of : ℕ → ℕ
vertex_of e = e % 4096

-- the position of vertex s
unfoldable pub pos_at : List ℕ → ℕ → ℕ
pos_at w s = get_or w s 0

-- the same, if the heap holds it
unfoldable pub position_at : List ℕ → ℕ → Option ℕ
position_at w s = cond (eqb (pos_at w s) nowhere) None (Some (pos_at w s))

-- entry j
unfoldable pub entry_at : ℕ → List ℕ → ℕ → ℕ
entry_at v w j = get_or w (v + 2 * j) 0 + word * get_or w (v + 2 * j + 1) 0

-- the first v vertices stand nowhere
unfoldable pub cleared : ℕ → List ℕ → List ℕ
cleared zero w = w
cleared (suc v) w = set (cleared v w) v nowhere

-- entry j becomes e, and its vertex stands there
unfoldable pub put : ℕ → List ℕ → ℕ → ℕ → List ℕ
put v w j e = set (set (set w (v + 2 * j) (e % word)) (v + 2 * j + 1) (e / word)) (vertex_of e) j

-- the cheaper of the entries l and l + 1 of n, the first if it is alone
unfoldable pub child_of : ℕ → List ℕ → ℕ → ℕ → ℕ
child_of v w n l = cond (ltb (l + 1) n) (cond (ltb (entry_at v w (l + 1)) (entry_at v w l)) (l + 1) l) l

-- e is to stand at j or below, over at most so many levels: a cheaper entry below moves up
unfoldable pub sunk : ℕ → ℕ → ℕ → ℕ → ℕ → List ℕ → List ℕ
sunk v zero n j e w = put v w j e
sunk v (suc k) n j e w =
    cond (leb n (2 * j + 1)) (put v w j e)
    (cond (ltb (entry_at v w (child_of v w n (2 * j + 1))) e)
    (sunk v k n (child_of v w n (2 * j + 1)) e (put v w j (entry_at v w (child_of v w n (2 * j + 1)))))
    (put v w j e))

-- the entry above entry j
abbrev pub above : ℕ → ℕ
above j = (j - 1) / 2

-- e is cheaper than the entry above entry j
unfoldable pub cheaper_at : ℕ → List ℕ → ℕ → ℕ → Bool
cheaper_at v w j e = cond (eqb j 0) false (ltb e (entry_at v w (above j)))

-- e is to stand at j or above, over at most so many levels: a dearer entry above moves down
unfoldable pub risen : ℕ → ℕ → ℕ → ℕ → List ℕ → List ℕ
risen v zero j e w = put v w j e
risen v (suc k) j e w = cond (cheaper_at v w j e) (risen v k (above j) e (put v w j (entry_at v w (above j)))) (put v w j e)

-- the slot below entry j that e goes down to, or j where e stays there or no level is left
unfoldable pub lower_of : ℕ → ℕ → ℕ → ℕ → ℕ → List ℕ → ℕ
lower_of v k n j e w =
    cond (eqb k 0) j
    (cond (leb n (2 * j + 1)) j
    (cond (ltb (entry_at v w (child_of v w n (2 * j + 1))) e) (child_of v w n (2 * j + 1)) j))

-- as many levels as are below the first of 4,096 entries
abbrev pub levels : ℕ
levels = 12

-- e is to stand at slot j, or where the order wants it
unfoldable pub placed : ℕ → ℕ → ℕ → ℕ → List ℕ → List ℕ
placed v n j e w = cond (cheaper_at v w j e) (risen v levels j e w) (sunk v levels n j e w)

-- slot j, of vertex s, goes, and m are left: the last entry takes its place, if it is another one
unfoldable pub removed : ℕ → ℕ → ℕ → ℕ → List ℕ → List ℕ
removed v m j s w = cond (eqb j m) (set w s nowhere) (placed v m j (entry_at v w m) (set w s nowhere))

-- vertex s has the entry e in the heap now, no dearer than before, or is not in it
unfoldable pub updated : ℕ → ℕ → ℕ → Bool → ℕ → List ℕ → List ℕ
updated v n s true e w = risen v levels (cond (eqb (pos_at w s) nowhere) n (pos_at w s)) e w
updated v n s false e w = cond (eqb (pos_at w s) nowhere) w (removed v (n - 1) (pos_at w s) s w)

-- so many entries it has then
unfoldable pub counted : ℕ → ℕ → Bool → List ℕ → ℕ
counted n s true w = cond (eqb (pos_at w s) nowhere) (n + 1) n
counted n s false w = cond (eqb (pos_at w s) nowhere) n (n - 1)
