-- What questions that are passed give: the lengths, and a register that is known. Assumes nothing.
use Prim.Native.Nat.{ℕ, ◌≤◌}
use mathlib.Core.Path.{◌≡◌}
use mathlib.Core.Bool.{true, false, ◌&&◌, and-false}
use mathlib.Core.List.{List}
use mathlib.Core.Logic.{◌≢◌, ◌⊎◌, inl, inr}
use lib.ListN.{length}
use lib.Dec.{eqb, leb}
use borrow.Author.Tests.{ne_eqb, eqb-true, leb-true}
use Rattle.rules.specs.Areas.{Store, memory_length, arrivals_length, outgoing_length, answers_length, areas_full}
use Rattle.rules.specs.Board.{board8}
use Rattle.rules.specs.Questions.{settings_sound, stack_sound, slots_sound, full, control_refusal}
use Rattle.rules.proofs.Booleans.{and_left, and_right, asked-passed}

-- ---- question 1, passed

pub full-lengths : (r : Store) → full board8 r ≡ true → (length r.state ≡ board8.state_length) × (length r.memory ≡ memory_length)
unfolding full
full-lengths r e =
    let s = eqb (length r.state) board8.state_length in
    let m = eqb (length r.memory) memory_length in
    (eqb-true _ _ (and_left s m e), eqb-true _ _ (and_right s m e))

-- Not passed: a length is wrong.
pub not-full : (r : Store) → (length r.state ≢ board8.state_length) ⊎ (length r.memory ≢ memory_length) → full board8 r ≡ false
unfolding full
not-full r (inl h) = rw (ne_eqb (length r.state) board8.state_length h)
not-full r (inr h) = rw (ne_eqb (length r.memory) memory_length h) (and-false (eqb (length r.state) board8.state_length))

-- The areas of a tick besides the store.
pub areas-lengths : (area out ans : List ℕ) → areas_full area out ans ≡ true → (length area ≡ arrivals_length) × (length out ≡ outgoing_length) × (length ans ≡ answers_length)
unfolding areas_full
areas-lengths area out ans e =
    let a = eqb (length area) arrivals_length in
    let o = eqb (length out) outgoing_length in
    let n = eqb (length ans) answers_length in
    let packets = and_left (a && o) n e in
    (eqb-true _ _ (and_left a o packets), eqb-true _ _ (and_right a o packets), eqb-true _ _ (and_right (a && o) n e))

-- ---- an accepted control write

-- Its state has its length.
pub control-sized : (r : Store) (register v : ℕ) → control_refusal board8 r register v ≡ 0 → length r.state ≡ board8.state_length
unfolding control_refusal
control-sized r register v e = (full-lengths r (asked-passed (full board8 r) 0 _ e).0).0

-- Its register is known.
pub known : (r : Store) (register v : ℕ) → control_refusal board8 r register v ≡ 0 → register ≤ 5
unfolding control_refusal
known r register v e =
    let after-lengths = asked-passed (full board8 r) 0 _ e in
    let after-settings = asked-passed (settings_sound board8 r.state) 12 _ after-lengths.1 in
    let after-stack = asked-passed (stack_sound board8 r.state) 13 _ after-settings.1 in
    let after-packets = asked-passed (slots_sound board8 r) 14 _ after-stack.1 in
    leb-true register 5 (asked-passed (leb register 5) 3 _ after-packets.1).0
