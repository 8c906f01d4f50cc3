-- Laws for going through a plan that was checked: the four numbers that are read there, and the edge that they are.
use Prim.Native.Nat.{ℕ, ◌+◌, ◌-◌, ◌<◌}
use native.Mathlib.Omega.{arith}
use mathlib.Core.Path.{◌≡◌}
use mathlib.Core.List.{List}
use borrow.Author.Tests.{leb-false}
use Rattle.leb128.specs.Number.{read, plan_groups}
use Rattle.std.specs.Prelude.{Ok}
use Rattle.graph.specs.declared.Cursor.{Cursor}
use Rattle.graph.specs.Rows.{tail_rows, head_rows}
use Rattle.graph.specs.Plan.{past, next_edge}
use Rattle.graph.proofs.OneEdge.{Read, read_edge}
use Rattle.plan_check.specs.Past.{HasNext, next_as}

-- the numbers of the edge that is next, and where each ends
pub record Numbers (v : ℕ) (s : List ℕ) (c : Cursor) : Type 0 where
  pub difference : ℕ
  pub head_at : ℕ
  pub head : ℕ
  pub cost_at : ℕ
  pub cost : ℕ
  pub class_at : ℕ
  pub class : ℕ
  pub end : ℕ
  pub tail_read : read plan_groups s c.at ≡ Ok (difference, head_at)
  pub head_read : read plan_groups s head_at ≡ Ok (head, cost_at)
  pub cost_read : read plan_groups s cost_at ≡ Ok (cost, class_at)
  pub class_read : read plan_groups s class_at ≡ Ok (class, end)
  pub tail_within : c.tail + difference < v
  pub head_within : head < v
  pub is : next_as (c.tail + difference) head cost class end ≡ next_edge v s c

pub numbers : {v : ℕ} {s : List ℕ} {c : Cursor} → HasNext v s c → Numbers v s c
unfolding tail_rows head_rows next_as past
numbers {v = v} {s = s} {c = c} h =
    let e = h.edge in
    let found = read_edge v s c e h.after h.is in
    let r : Read v s c e h.after.at = found.0 in
    let t : c.tail + (e.tail - c.tail) ≡ e.tail = omega (arith, r.rising) in
    record {
      difference = e.tail - c.tail;
      head_at = r.head_at;
      head = e.head;
      cost_at = r.cost_at;
      cost = e.cost;
      class_at = r.class_at;
      class = e.class;
      end = h.after.at;
      tail_read = r.tail_read.reads;
      head_read = r.head_read.reads;
      cost_read = r.cost_read.reads;
      class_read = r.class_read.reads;
      tail_within = leb-false v _ r.tail_read.passes.0;
      head_within = leb-false v _ r.head_read.passes.0;
      is = rw t (cc (found.1, h.is));
    }
