-- The entries' laws fix the numbers: what decides each is decided by a test, so two numbers that meet the laws are one. Assumes nothing.
use Prim.Native.Nat.{ℕ, ◌+◌, ◌*◌}
use mathlib.Core.Path.{◌≡◌, refl, sym, ◌∙◌}
use mathlib.Core.Bool.{Bool, true, false, ◌&&◌, true≢false}
use mathlib.Core.Logic.{◌↔◌}
use Rattle.rules.specs.Areas.{Store, areas_full}
use Rattle.rules.specs.Board.{Board, board8}
use Rattle.rules.specs.Questions.{full, settings_sound, stack_sound, slots_sound, lowest_bad}
use Rattle.any_state.specs.Entries.{SettingsSound, StackSound, Sound, FaultNamed}
use Rattle.any_state.proofs.Entries.{settings-iff, stack-iff, slots-iff, full-iff, areas-iff, lowest-bad, entries}
use Rattle.wrong.specs.ShutOut.{NumbersFixed}

-- What a test that fails decides doesn't hold.
fails-so : {P : Type 0} {b : Bool} → (b ≡ true) ↔ P → b ≡ false → P → ⊥
fails-so i e x = true≢false (sym (i.1 x) ∙ e)

module _ (B : Board) (r : Store) (W P : Type 0) (f : Bool) (lengths : (f ≡ true) ↔ W) (m due : ℕ) (bad : slots_sound B r ≡ false → P) where
  -- By the tests in their order.
  one_number : (n k : ℕ) → FaultNamed B r W P m due n → FaultNamed B r W P m due k → n ≡ k
  one_number n k N K = go f (settings_sound B r.state) (stack_sound B r.state) (slots_sound B r) refl refl refl refl
    where
      go : (a b d e : Bool) → f ≡ a → settings_sound B r.state ≡ b → stack_sound B r.state ≡ d → slots_sound B r ≡ e → n ≡ k
      go false b d e p q u v = let x = fails-so lengths p in N.lengths.1 x ∙ sym (K.lengths.1 x)
      go true false d e p q u v = let x : W × (SettingsSound B r.state → ⊥) = (lengths.0 p, fails-so (settings-iff B r.state) q) in N.settings.1 x ∙ sym (K.settings.1 x)
      go true true false e p q u v = let x : W × SettingsSound B r.state × (StackSound B r.state → ⊥) = (lengths.0 p, (settings-iff B r.state).0 q, fails-so (stack-iff B r.state) u) in N.stack.1 x ∙ sym (K.stack.1 x)
      go true true true false p q u v = let x : W × SettingsSound B r.state × StackSound B r.state × P = (lengths.0 p, (settings-iff B r.state).0 q, (stack-iff B r.state).0 u, bad v) in N.packets.1 x ∙ sym (K.packets.1 x)
      go true true true true p q u v =
          let s : Sound B r = record { settings = (settings-iff B r.state).0 q; stack = (stack-iff B r.state).0 u; stored = (slots-iff B r).0 v } in
          N.sound (lengths.0 p) s ∙ sym (K.sound (lengths.0 p) s)

-- The laws hold of ours.
pub numbers_fixed : NumbersFixed
numbers_fixed = record {
  control = λ r q v n N. one_number board8 r _ _ (full board8 r) (full-iff board8 r) 15 _ (fails-so (slots-iff board8 r)) n _ N (entries.control r q v).0;
  tick = λ r k out ans n N. one_number board8 r _ _ (full board8 r && areas_full k.arrivals out ans) (areas-iff board8 r k.arrivals out ans) 15 _ (fails-so (slots-iff board8 r)) n _ N (entries.tick r k out ans).0;
  service = λ r n N. let i = lowest_bad board8 r in one_number board8 r _ _ (full board8 r) (full-iff board8 r) (15 + 256 * i) 0 (lowest-bad board8 r) n _ (N i) (entries.service r i);
}
