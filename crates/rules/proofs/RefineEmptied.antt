-- Steps 4 and 5 keep the relation with the router whose places are emptied: a deadline reads as the clock just if it is the clock, and slots go back as places do, lowest first. Assumes nothing.
use Prim.Native.Nat.{ℕ, zero, suc, ◌+◌, ◌<◌, ◌≤◌}
use mathlib.Core.Path.{◌≡◌, refl, sym, ap, ap₂, subst, ◌∙◌}
use mathlib.Core.Bool.{Bool, true, false, cond, not, ◌&&◌, ◌||◌}
use mathlib.Core.List.{List, ◌∷◌}
use mathlib.Core.Logic.{◌≢◌, ◌⊎◌, inl, inr, ⊎_elim}
use mathlib.Core.Option.{Option, none, some}
use native.Mathlib.Omega.{arith}
use lib.ListN.{length, length-append}
use lib.Dec.{eqb}
use lib.IntN.{ℤ}
use borrow.Author.Tests.{eq-eqb, ne_eqb, eqb-true, lt-ltb, le-ltb}
use Rattle.rules.specs.Account.{stored, Kept}
use Rattle.rules.specs.Areas.{half, has, Store}
use Rattle.rules.specs.Board.{Board, Kind, Free, Idle, Time, Deadline, Mask, Field, clock, free}
use Rattle.rules.specs.Order.{count, counted, top_first}
use Rattle.rules.specs.Questions.{stack}
use Rattle.rules.specs.Tick.{is_due as is_due_now, withdrawn, withdrawals, give_back, returned}
use Rattle.rules.specs.Whole.{Held, Router, to_serve, is_due, due, remaining, emptied, is_held}
use Rattle.rules.proofs.BoardLaws.{Laws, Valid, same_kind, same_field}
use Rattle.rules.specs.Whole as Whole
use Rattle.rules.proofs.Booleans.{and_left}
use Rattle.rules.proofs.IndexLaws.{count-pos}
use Rattle.rules.proofs.Masks.{has-zero}
use Rattle.rules.proofs.WholeLaws.{AllHeld, emptied-at, emptied-place, emptied-kept, emptied-frame}
use Rattle.rules.proofs.Good.{HeldInWindow}
use Rattle.rules.proofs.TimeLaws.{window-due}
use Rattle.rules.proofs.StateLaws.{Reads, none_out, reads_self, reads-through, reads-less, reads-put, reads-apart, reads-off, marked, marked-none, marked_next, stack_same, top_first-same, length-stack}
use Rattle.rules.proofs.Relation.{HeldShown, SlotShows, SettingsShown, settings-places, Rel, with-state, rel-room}

-- Something held is counted.
held-counts : (f : ℕ → Option Held) (i : ℕ) → i < 256 → is_held (f i) ≡ true → 0 < stored f
unfolding stored
held-counts f i l h = count-pos (λ j. is_held (f j)) 256 i l h

-- A place is emptied now.
abbrev leaves : ℤ → Option Held → Bool
leaves t v = is_held v && not (is_held (remaining t v))

-- The mask that withdrawal leaves.
abbrev remains : ℤ → Option Held → ℕ
remains t none = 0
remains t (some h) = cond (is_due t h.packet) 0 h.left

-- Held before and without a port now: the place is emptied.
returns-leaves : (t : ℤ) (v : Option Held) → (not (not (is_held v)) && eqb (remains t v) 0) ≡ leaves t v
unfolding is_held remaining
returns-leaves t none = refl
returns-leaves t (some h) = go (is_due t h.packet) (eqb h.left 0) refl
  where
    go : (a b : Bool) → eqb h.left 0 ≡ b → eqb (cond a 0 h.left) 0 ≡ not (is_held (cond (a || b) none (some h)))
    go true b e = refl
    go false true e = e
    go false false e = e

module _ (B : Board) (L : Laws B) where
  open B use {clock_bytes as c, state_length, get, put}

  -- ---- step 4

  -- It clears the mask of each slot that is due, one slot after the other.
  pub withdrawn_reads : (s : List ℕ) → length s ≡ state_length → (n : ℕ) → n ≤ 256 → Reads B L none_out (withdrawn B n s) (marked B L Mask (is_due_now B s) 0 (get s) n)
  unfolding withdrawn
  withdrawn_reads s z zero l = marked-none B L Mask (is_due_now B s) 0 (get s) (reads_self B L s z)
  withdrawn_reads s z (suc n) l =
      let M = withdrawn_reads s z n (omega arith) in
      rw (M.reads (Deadline, n) refl (omega arith), M.reads clock refl (omega arith)) (marked_next B L Mask (is_due_now B s) 0 (get s) n M (omega arith))

  -- ---- a slot goes back on the stack

  module _ {t : Kind → Bool} {s : List ℕ} {σ : Field → ℕ} (R : Reads B L t s σ) (i : ℕ) (room : get s free < 256) where
    -- No other field changes.
    push-reads : t Free ≡ true → t Idle ≡ true → Reads B L t (give_back B i s) σ
    push-reads h₃ h₄ = reads-off B L (reads-off B L R (Idle, get s free) i room h₄) free _ (omega arith) h₃

    -- Two stores, read back.
    pushed : let n = get s free in Reads B L none_out (give_back B i s) (λ f. cond (same_field free f) (n + 1) (cond (same_field (Idle, n) f) i (get s f)))
    pushed = reads-put B L (reads-put B L (reads_self B L s R.sized) (Idle, get s free) i room) free (get s free + 1) (omega arith)

    -- The entry stored is the top, and those below stay.
    push-stack : stack B (give_back B i s) ≡ i ∷ stack B s
    unfolding stack top_first
    push-stack =
        let n = get s free in
        let P = pushed in
        let e : get (give_back B i s) free ≡ suc n = P.reads free refl (omega arith) ∙ omega arith in
        ap (top_first (λ j. get (give_back B i s) (Idle, j))) e
        ∙ ap₂ (λ (x : ℕ) (l : List ℕ). x ∷ l) (P.reads (Idle, n) refl room ∙ rw (eq-eqb n n refl))
        (top_first-same (λ j. get (give_back B i s) (Idle, j)) (λ j. get s (Idle, j)) n (λ j h. P.reads (Idle, j) refl (omega arith) ∙ rw (ne_eqb n j (omega arith))))

    -- The count is one more, and every other entry stays.
    push-entries : (get (give_back B i s) free ≡ suc (get s free)) × ((j : ℕ) → j < 256 → j ≢ get s free → get (give_back B i s) (Idle, j) ≡ get s (Idle, j))
    push-entries =
        let n = get s free in
        let P = pushed in
        (P.reads free refl (omega arith) ∙ omega arith, λ j l d. P.reads (Idle, j) refl l ∙ rw (ne_eqb n j (λ e. d (sym e))))

  -- ---- both steps

  -- `before` is a state whose slots had a port to serve just where the places hold a packet.
  module _ {r : Store} {w : Router} (R : Rel B L r w) (K : Kept w.place w.free) (F : AllHeld (HeldInWindow c w.clock (half c)) w.place)
      (before : List ℕ) (was : (i : ℕ) → i < 256 → eqb (get before (Mask, i)) 0 ≡ not (is_held (w.place i))) where
    abbrev t : ℤ
    t = w.clock

    abbrev s : List ℕ
    s = r.state

    -- A held packet is due where its slot is.
    due-here : (i : ℕ) → i < 256 → (h : Held) → w.place i ≡ some h → HeldShown B r i h → is_due_now B s i ≡ is_due t h.packet
    due-here i l h e H = ap₂ eqb H.deadline (R.settings.reads clock refl (omega arith)) ∙ window-due c t h.packet (F i l h e).window

    abbrev s₃ : List ℕ
    s₃ = withdrawn B 256 s

    M : Reads B L none_out s₃ (marked B L Mask (is_due_now B s) 0 (get s) 256)
    M = withdrawn_reads s R.settings.sized 256 (omega arith)

    -- A slot that is due has no port left, any other keeps its ports.
    mask-remains : (i : ℕ) → i < 256 → get s₃ (Mask, i) ≡ remains t (w.place i)
    mask-remains i l = M.reads (Mask, i) refl l ∙ rw (lt-ltb i 256 l) (go (w.place i) refl (R.place i l))
      where
        same-arms : (b : Bool) (n : ℕ) → cond b n n ≡ n
        same-arms true n = refl
        same-arms false n = refl

        go : (v : Option Held) → w.place i ≡ v → SlotShows B L r i v → cond (is_due_now B s i) 0 (get s (Mask, i)) ≡ remains t v
        go none e h = rw h (same-arms (is_due_now B s i) 0)
        go (some h) e H = ap₂ (λ (b : Bool) (m : ℕ). cond b 0 m) (due-here i l h e H) H.left

    abbrev back : ℕ → List ℕ
    back n = returned B n before s₃

    abbrev e : ℕ → Router
    e n = emptied t n w

    abbrev stacks : Kind → Bool
    stacks k = same_kind k Free || same_kind k Idle

    -- After the slots below n: settings and slots stay, the stack is the free list, and its entries stay but those from the free count met up to the one now.
    record Back (n : ℕ) : Type 0 where
      settings : SettingsShown B L (back n) w
      slots : Reads B L stacks (back n) (get s₃)
      stacked : stack B (back n) ≡ (e n).free
      more : get s free ≤ get (back n) free
      entries : (j : ℕ) → j < 256 → (j < get s free) ⊎ (get (back n) free ≤ j) → get (back n) (Idle, j) ≡ get s (Idle, j)

    -- A slot goes back just where its place is emptied; there is room, as that place was held.
    back_step : (n : ℕ) → n < 256 → Back n → Back (suc n)
    unfolding returned emptied
    back_step n l P = finish (leaves t v) refl
      where
        v : Option Held
        v = w.place n

        s' : List ℕ
        s' = back n

        here : (e n).place n ≡ v
        here = emptied-at t n w n ∙ rw (le-ltb n n (omega arith))

        tests : (not (eqb (get before (Mask, n)) 0) && eqb (get s' (Mask, n)) 0) ≡ leaves t v
        tests = rw (was n l, P.slots.reads (Mask, n) refl l, mask-remains n l) (returns-leaves t v)

        free-after : (e (suc n)).free ≡ cond (leaves t v) (n ∷ (e n).free) (e n).free
        free-after = rw here

        room : is_held v ≡ true → get s' free < 256
        room h =
            let a = (emptied-kept t n w (omega arith) K).all in
            let b = held-counts (e n).place n l (ap is_held here ∙ h) in
            let q : get s' free ≡ length (e n).free = sym (length-stack B L s') ∙ ap length P.stacked in
            omega arith

        finish : (b : Bool) → leaves t v ≡ b → Back (suc n)
        finish true m =
            let h = room (and_left (is_held v) (not (is_held (remaining t v))) m) in
            let (k, f) = push-entries P.settings n h in
            record {
              settings = rw (tests, m) (push-reads P.settings n h refl refl);
              slots = rw (tests, m) (push-reads P.slots n h refl refl);
              stacked = rw (tests, free-after, m) (push-stack P.settings n h ∙ ap (λ (l : List ℕ). n ∷ l) P.stacked);
              more = rw (tests, m) (let a = P.more in omega arith);
              entries = rw (tests, m) (λ j l o. f j l (apart j o) ∙ P.entries j l (⊎_elim (λ a. inl a) (λ a. inr (omega arith)) o));
            }
          where
            apart : (j : ℕ) → (j < get s free) ⊎ (get (give_back B n s') free ≤ j) → j ≢ get s' free
            apart j (inl a) = let b = P.more in omega arith
            apart j (inr a) = let (k, f) = push-entries P.settings n (room (and_left (is_held v) (not (is_held (remaining t v))) m)) in omega arith
        finish false m = record { settings = rw (tests, m) P.settings; slots = rw (tests, m) P.slots; stacked = rw (tests, free-after, m) P.stacked; more = rw (tests, m) P.more; entries = rw (tests, m) P.entries }

    -- By induction over the slots; withdrawal leaves settings and stack.
    backs : (n : ℕ) → n ≤ 256 → Back n
    unfolding returned emptied
    backs zero l = record {
      settings = reads-through B L (reads-apart B L Mask _ 0 refl (reads-less B L M)) R.settings;
      slots = reads_self B L s₃ M.sized;
      stacked = stack_same B L s s₃ (rel-room B L R K) (M.reads free refl (omega arith)) (λ i m. M.reads (Idle, i) refl m) ∙ R.stack;
      more = let e = M.reads free refl (omega arith) in omega arith;
      entries = λ j m o. M.reads (Idle, j) refl m;
    }
    backs (suc n) l = back_step n (omega arith) (backs n (omega arith))

    -- ---- what both leave

    -- In each slot what settles in its place.
    ended_here : (i : ℕ) → i < 256 → SlotShows B L (with-state B L r (back 256)) i (remaining t (w.place i))
    unfolding remaining
    ended_here i l = go (w.place i) refl (R.place i l)
      where
        O : Reads B L stacks (back 256) (get s₃)
        O = (backs 256 (omega arith)).slots

        mask-after : {v : Option Held} → w.place i ≡ v → get (back 256) (Mask, i) ≡ remains t v
        mask-after e = O.reads (Mask, i) refl l ∙ mask-remains i l ∙ ap (remains t) e

        go : (v : Option Held) → w.place i ≡ v → SlotShows B L r i v → SlotShows B L (with-state B L r (back 256)) i (remaining t v)
        go none e h = mask-after e
        go (some h) e H = at (is_due t h.packet) (eqb h.left 0) refl refl
          where
            at : (a b : Bool) → is_due t h.packet ≡ a → eqb h.left 0 ≡ b → SlotShows B L (with-state B L r (back 256)) i (cond (a || b) none (some h))
            at true b p q = mask-after e ∙ rw p
            at false true p q = mask-after e ∙ rw p (eqb-true h.left 0 q)
            at false false p q = record { time = O.reads (Time, i) refl l ∙ M.reads (Time, i) refl l ∙ H.time; deadline = O.reads (Deadline, i) refl l ∙ M.reads (Deadline, i) refl l ∙ H.deadline; left = mask-after e ∙ rw p; bytes = H.bytes }

    -- Steps 4 and 5 keep the relation.
    pub ended-rel : Rel B L (with-state B L r (back 256)) (e 256)
    ended-rel =
        let P = backs 256 (omega arith) in
        record {
          settings = subst (SettingsShown B L (back 256)) (sym (emptied-frame t 256 w)) (settings-places B L w (e 256).place (e 256).free P.settings);
          whole = R.whole;
          place = λ i l. subst (SlotShows B L (with-state B L r (back 256)) i) (sym (emptied-place t w i l)) (ended_here i l);
          stack = P.stacked;
        }

    -- Of the slots they change the masks alone, and of the stack's entries those from the free count met up to the one after.
    pub ended-slots : (k : Kind) → (same_kind k Free || same_kind k Idle) ≡ false → same_kind Mask k ≡ false → (i : ℕ) → Valid (k, i) → get (back 256) (k, i) ≡ get s (k, i)
    ended-slots k a b i v = (backs 256 (omega arith)).slots.reads (k, i) a v ∙ M.reads (k, i) refl v ∙ rw b

    pub ended-entries : (j : ℕ) → j < 256 → (j < get s free) ⊎ (get (back 256) free ≤ j) → get (back 256) (Idle, j) ≡ get s (Idle, j)
    ended-entries = (backs 256 (omega arith)).entries

    -- ---- what is counted as withdrawn

    module _ (p : ℕ) (hp : p < 5) where
      -- By cases of the place.
      one-due : (i : ℕ) → i < 256 → (v : Option Held) → w.place i ≡ v → SlotShows B L r i v → counted (has (get s (Mask, i)) p && is_due_now B s i) ≡ length (due t (to_serve v p))
      unfolding due to_serve counted
      one-due i l none e h = rw (h, has-zero p hp)
      one-due i l (some h) e H = rw (H.left, due-here i l h e H) (go (has h.left p) (is_due t h.packet) refl)
        where
          go : (a b : Bool) → is_due t h.packet ≡ b → cond (a && b) 1 0 ≡ length (due t (cond a (some h.packet) none))
          go true true q = rw q
          go true false q = rw q
          go false b q = refl

      -- As many are counted as are withdrawn, from the slots below n.
      count-due : (n : ℕ) → n ≤ 256 → count n (λ i. has (get s (Mask, i)) p && is_due_now B s i) ≡ length (Whole.withdrawn t w.place p n)
      unfolding count Whole.withdrawn
      count-due zero l = refl
      count-due (suc n) l = ap₂ (λ (a b : ℕ). a + b) (count-due n (omega arith)) (one-due n (omega arith) (w.place n) refl (R.place n (omega arith))) ∙ sym (length-append (Whole.withdrawn t w.place p n) (due t (to_serve (w.place n) p)))

      -- And so from all.
      pub withdrawals-same : withdrawals B s p ≡ length (Whole.withdrawn t w.place p 256)
      unfolding withdrawals
      withdrawals-same = count-due 256 (omega arith)
