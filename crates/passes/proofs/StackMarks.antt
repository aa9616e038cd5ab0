-- A pass over the idle-address stack that marks the slots it meets, for any board: an entry is new just if its slot isn't marked. Assumes nothing.
use Prim.Native.Nat.{ℕ, suc, ◌+◌, ◌<◌, ◌≤◌}
use mathlib.Core.Path.{◌≡◌, refl, sym, ap, ◌∙◌}
use mathlib.Core.Bool.{Bool, true, false, not, ◌&&◌, ◌||◌, and_comm}
use mathlib.Core.List.{List}
use native.Mathlib.Decide.{ℕ_discrete, dec_lt}
use native.Mathlib.Numerals.{add-one}
use native.Mathlib.Omega.{arith}
use lib.ListN.{get_or, set, replicate, length-set, length-replicate, get_or-replicate}
use lib.Seq.{get_or-set_same, get_or-set_other}
use lib.Dec.{eqb}
use borrow.Author.Tests.{eq-eqb, ne_eqb, le-leb}
use Rattle.rules.specs.Order.{all, top_first}
use Rattle.rules.specs.Areas.{elem, distinct}
use Rattle.rules.specs.Board.{Board, Idle, free}
use Rattle.rules.specs.Questions.{stack, listed, stack_sound}
use Rattle.passes.specs.Room.{used}
use Rattle.rules.proofs.BoardLaws.{Laws}
use Rattle.passes.proofs.Room.{sound-used}
use Rattle.passes.specs.Stack.{entries, Marked}

module _ (B : Board) (s : List ℕ) where
  open B use {get}

  -- No entry is passed at first, and nothing is marked.
  pub marked-none : (seen : List Bool) → seen ≡ replicate 256 false → Marked B s 0 seen true
  unfolding top_first elem distinct
  marked-none seen e = rw e (record {
    sized = length-replicate 256 false;
    marks = λ a h. get_or-replicate 256 a false false h;
    slots = λ j h. absurd (omega arith);
    different = refl;
  })

  -- One entry more, a: its slot is marked, and the entries stay different if it had no mark.
  module _ (i a : ℕ) (e : a ≡ get s (Idle, i)) (h : a < 256) (seen : List Bool) (d : Bool) (M : Marked B s i seen d) where
    marks-next : (b : ℕ) → b < 256 → get_or (set seen a true) b false ≡ elem b (entries B s (suc i))
    unfolding top_first elem
    marks-next b l = go (ℕ_discrete b a)
      where
        go : Dec (b ≡ a) → get_or (set seen a true) b false ≡ (eqb b (get s (Idle, i)) || elem b (entries B s i))
        go (yes q) = rw (eq-eqb b (get s (Idle, i)) (q ∙ e), ← q) (get_or-set_same seen b true false (rw M.sized l))
        go (no q) = rw (ne_eqb b (get s (Idle, i)) (λ z. q (z ∙ sym e))) (get_or-set_other seen a b true false q ∙ M.marks b l)

    slots_next : (j : ℕ) → j < suc i → get s (Idle, j) < 256
    slots_next j l = go (dec_lt j i)
      where
        go : Dec (j < i) → get s (Idle, j) < 256
        go (yes m) = M.slots j m
        go (no m) = let q : j ≡ i = omega arith in let k = ap (λ (x : ℕ). get s (Idle, x)) q in omega arith

    different-next : (d && not (get_or seen a false)) ≡ distinct (entries B s (suc i))
    unfolding top_first distinct
    different-next = and_comm d (not (get_or seen a false)) ∙ rw (M.marks a h, M.different, e)

    pub marked_next : Marked B s (i + 1) (set seen a true) (d && not (get_or seen a false))
    marked_next = rw (add-one i) (record {
      sized = length-set seen a true ∙ M.sized;
      marks = marks-next;
      slots = slots_next;
      different = different-next;
    })

-- Where the slots of the stack are marked, are different and are the empty ones, there is room for every slot that holds a packet.
pub marked-has-room : (B : Board) (L : Laws B) (s : List ℕ) (n : ℕ) (seen : List Bool) → n ≡ B.get s free → n ≤ 256 → Marked B s n seen true → all 256 (listed B s) ≡ true → used B s ≤ 256
unfolding stack_sound stack
marked-has-room B L s n seen en l M el =
    let sound : stack_sound B s ≡ true = rw (← en, le-leb n 256 l, ← M.different) el in
    let u = sound-used B L s sound (rw (← en) M.slots) in
    omega arith
