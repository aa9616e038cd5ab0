-- A control write keeps the relation: each field that it stores reads back as what it puts, and no other changes. Assumes nothing.
use Prim.Native.Nat.{ℕ, zero, suc, ◌<◌, ◌≤◌}
use mathlib.Core.Path.{◌≡◌, refl}
use mathlib.Core.Bool.{Bool, true, false, cond}
use mathlib.Core.List.{List}
use native.Mathlib.Omega.{arith}
use lib.Dec.{eqb}
use borrow.Author.Tests.{ltb-true, lt-ltb}
use Rattle.rules.specs.Account.{Kept}
use Rattle.rules.specs.Areas.{has, fits, Store}
use Rattle.rules.specs.Board.{Board, Kind, Horizon, Latch, Outgoing, Delay, Routes, Field}
use Rattle.rules.specs.Questions.{commit_entry, commit_horizon, written}
use Rattle.rules.specs.Whole.{Entry, Router}
use Rattle.rules.specs.Whole as Whole
use Rattle.rules.proofs.BoardLaws.{Laws}
use Rattle.rules.proofs.Good.{latched}
use Rattle.rules.proofs.StateLaws.{Reads, reads_self, reads_as, reads-put, reads-apart, reads-off, marked, marked-none, marked_next}
use Rattle.rules.proofs.Relation.{on-settings, Rel, with-state, rel-settings}

module _ (B : Board) (L : Laws B) where
  open B use {clock_bytes as c, get, put}

  module _ {r : Store} {w : Router} (R : Rel B L r w) (K : Kept w.place w.free) where
    abbrev s : List ℕ
    s = r.state

    -- The state met, for what is not a setting.
    met : {t : Kind → Bool} → Reads B L t s (get s)
    met = reads_self B L s R.settings.sized

    -- What a register holds.
    register-same : (q : ℕ) → q < 4 → get s (Latch, q) ≡ w.latch q
    register-same q l = R.settings.reads (Latch, q) refl l

    -- ---- registers 0, 1, 2 and 4

    -- One store.
    latch-rel : (q v : ℕ) → q < 4 → Rel B L (with-state B L r (put s (Latch, q) v)) (record { clock = w.clock; horizon = w.horizon; latch = Whole.put w.latch q v; entry = w.entry; place = w.place; free = w.free })
    unfolding Whole.put
    latch-rel q v l = rel-settings B L R K
        (reads_as B L (reads-put B L R.settings (Latch, q) v l) (on-settings _ _ refl (λ p h. refl) (λ j h. refl) (λ i h. (refl, refl, refl))))
        (reads-off B L met (Latch, q) v l refl) refl refl

    -- ---- register 3

    module _ (v : ℕ) (hv : v < 256) where
      -- A part of the entries with one new.
      part-put : (part : Entry → ℕ) {x : ℕ} (i : ℕ) → x ≡ part (latched w) → cond (eqb v i) x (part (w.entry i)) ≡ part (Whole.put w.entry v (latched w) i)
      unfolding Whole.put
      part-put part {x} i e = go (eqb v i)
        where
          go : (t : Bool) → cond t x (part (w.entry i)) ≡ part (cond t (latched w) (w.entry i))
          go true = e
          go false = refl

      -- Three stores.
      entry-rel : Rel B L (with-state B L r (commit_entry B v s)) (record { clock = w.clock; horizon = w.horizon; latch = w.latch; entry = Whole.put w.entry v (latched w); place = w.place; free = w.free })
      entry-rel =
          rel-settings B L R K
          (reads_as B L (reads-put B L (reads-put B L (reads-put B L R.settings (Outgoing, v) (get s (Latch, 0)) hv) (Delay, v) (get s (Latch, 1)) hv) (Routes, v) (get s (Latch, 2)) hv) (on-settings _ _ refl (λ p h. refl) (λ j h. refl) (λ i h. (
            part-put (λ e. e.identifier) i (register-same 0 (omega arith)),
            part-put (λ e. e.delay) i (register-same 1 (omega arith)),
            part-put (λ e. e.mask) i (register-same 2 (omega arith)),
          ))))
          (reads-off B L (reads-off B L (reads-off B L met (Outgoing, v) (get s (Latch, 0)) hv refl) (Delay, v) (get s (Latch, 1)) hv refl) (Routes, v) (get s (Latch, 2)) hv refl) refl refl

    -- ---- register 5

    module _ (m h : ℕ) where
      -- The horizon is stored for the ports of the mask, one after the other.
      committed : {t : Kind → Bool} {σ : Field → ℕ} → Reads B L t s σ → (n : ℕ) → n ≤ 5 → Reads B L t (commit_horizon B n m h s) (marked B L Horizon (has m) h σ n)
      unfolding commit_horizon
      committed {σ = σ} S zero l = marked-none B L Horizon (has m) h σ S
      committed {σ = σ} S (suc n) l = marked_next B L Horizon (has m) h σ n (committed S n (omega arith)) (omega arith)

    -- The ports of register 4 as the router has them.
    horizon-rel : (v : ℕ) → Rel B L (with-state B L r (commit_horizon B 5 (get s (Latch, 3)) v s)) (record { clock = w.clock; horizon = λ p. cond (has (w.latch 3) p) v (w.horizon p); latch = w.latch; entry = w.entry; place = w.place; free = w.free })
    horizon-rel v =
        let m = get s (Latch, 3) in
        rel-settings B L R K
        (reads_as B L (committed m v R.settings 5 (omega arith)) (on-settings _ _ refl (λ p l. rw (lt-ltb p 5 l, register-same 3 (omega arith))) (λ j l. refl) (λ i l. (refl, refl, refl))))
        (reads-apart B L Horizon _ v refl (committed m v met 5 (omega arith))) refl refl

    -- ---- the write

    -- Register by register.
    pub written-rel : (register v : ℕ) → register ≤ 5 → fits c register v ≡ true → Rel B L (with-state B L r (written B register v s)) (Whole.written register v w)
    unfolding written Whole.written fits
    written-rel zero v l f = latch-rel 0 v (omega arith)
    written-rel (suc zero) v l f = latch-rel 1 v (omega arith)
    written-rel (suc (suc zero)) v l f = latch-rel 2 v (omega arith)
    written-rel (suc (suc (suc zero))) v l f = entry-rel v (ltb-true v 256 f)
    written-rel (suc (suc (suc (suc zero)))) v l f = latch-rel 3 v (omega arith)
    written-rel (suc (suc (suc (suc (suc zero))))) v l f = horizon-rel v
    written-rel (suc (suc (suc (suc (suc (suc n)))))) v l f = absurd (omega arith)
