-- The steps of the router that never turns over: what holds of every packet through each, place by place, and that no place is lost. Assumes nothing.
use Prim.Native.Nat.{ℕ, zero, suc, ◌+◌, ◌<◌, ◌≤◌}
use mathlib.Core.Path.{◌≡◌, refl, sym, ap, subst, ◌∙◌}
use mathlib.Core.Bool.{Bool, true, false, cond, not, ◌||◌, true≢false, ◌&&◌}
use mathlib.Core.Logic.{◌≢◌}
use mathlib.Core.List.{List, [], ◌∷◌, ◌++◌}
use mathlib.Core.Option.{Option, none, some}
use native.Mathlib.Decide.{ℕ_discrete}
use native.Mathlib.Omega.{arith}
use lib.ListN.{length, drop}
use lib.Dec.{T, ltb, eqb}
use lib.IntN.{ℤ, pos, ◌+ℤ◌}
use lib.Signed.{le_z}
use borrow.Author.Tests.{eq-eqb, ne_eqb, eqb-true, eqb-false, lt-ltb, le-ltb}
use Rattle.rules.specs.Account.{stored, Kept, Falling}
use Rattle.rules.specs.Areas.{byte, has, without, elem, distinct, Grant, nobody, best_effort, on_time, early, asked, arrival_questions, arrival_answer}
use Rattle.rules.specs.Order.{count, counted}
use Rattle.rules.specs.Whole.{Packet, Held, Router, with_places, put, Arrival, absent, refused, accepted, placed, admitted, lose, sent, is_due, remaining, emptied, arrival_refusal, made, arrival, arrival_code, is_held}
use Rattle.rules.proofs.Booleans.{true→T, asked-passed, some_inj, none-some, and_left, and_right, or_right, not-false}
use Rattle.rules.proofs.IndexLaws.{count-change, count_same}
use Rattle.rules.proofs.Integers.{ltb_iff}
use Rattle.rules.proofs.Grants.{Rests}

-- ---- one place changed

-- The place itself.
pub put_same : {A : Type 0} (f : ℕ → A) (i : ℕ) (v : A) → put f i v i ≡ v
unfolding put
put_same f i v = rw (eq-eqb i i refl)

-- Any other.
pub put_other : {A : Type 0} (f : ℕ → A) (i : ℕ) (v : A) (j : ℕ) → j ≢ i → put f i v j ≡ f j
unfolding put
put_other f i v j n = rw (ne_eqb i j (λ e. n (sym e)))

-- How many places pass a test.
unfoldable pub tally : (Option Held → Bool) → (ℕ → Option Held) → ℕ
tally t f = count 256 (λ i. t (f i))

-- It changes by the place changed.
pub tally-put : (t : Option Held → Bool) (f : ℕ → Option Held) (i : ℕ) (v : Option Held) → i < 256 → tally t (put f i v) + counted (t (f i)) ≡ tally t f + counted (t v)
unfolding tally
tally-put t f i v l =
    count-change (λ j. t (put f i v j)) (λ j. t (f j)) i 256 l (λ j n. ap t (put_other f i v j n))
    ∙ ap (λ y. count 256 (λ j. t (f j)) + counted (t y)) (put_same f i v)

-- ---- what holds of every held packet

-- P holds of each place and what it holds, or of what it holds alone.
abbrev pub AllAt : (ℕ → Held → Type 0) → (ℕ → Option Held) → Type 0
AllAt P f = (i : ℕ) → i < 256 → (h : Held) → f i ≡ some h → P i h

abbrev pub AllHeld : (Held → Type 0) → (ℕ → Option Held) → Type 0
AllHeld P = AllAt (λ i. P)

-- A packet as it is stored.
abbrev pub fresh-held : Packet → Held
fresh-held x = record { packet = x; left = x.mask }

-- A packet less a port.
abbrev pub loses : ℕ → Held → Held
loses p h = record { packet = h.packet; left = without h.left p }

-- One place put.
pub put_all : (P : ℕ → Held → Type 0) (f : ℕ → Option Held) (i : ℕ) (v : Option Held) → ((h : Held) → v ≡ some h → P i h) → AllAt P f → AllAt P (put f i v)
unfolding put
put_all P f i v hv a j l h e = go (eqb i j) refl e
  where
    go : (t : Bool) → eqb i j ≡ t → cond t v (f j) ≡ some h → P j h
    go true q e = subst (λ (k : ℕ). P k h) (eqb-true i j q) (hv h e)
    go false q e = a j l h e

-- A place less a port.
pub lose-all : (P : Held → Type 0) (p : ℕ) → ((h : Held) → P h → P (loses p h)) → (v : Option Held) → ((h : Held) → v ≡ some h → P h) → (h : Held) → lose p v ≡ some h → P h
unfolding lose
lose-all P p f none a h e = none-some e
lose-all P p f (some k) a h e = subst P (some_inj e) (f k (a k refl))

-- ---- a step of a tick

-- The router with the packet x in place i and l still free, and with the port p taken from place i.
abbrev pub stored-in : ℕ → List ℕ → Packet → Router → Router
stored-in i l x r = with_places r (put r.place i (some (fresh-held x))) l

abbrev pub lost-in : ℕ → ℕ → Router → Router
lost-in i p r = with_places r (put r.place i (lose p (r.place i))) r.free

-- What holds of a router, and of it with the packet that it accepts, holds after an arrival.
pub admitted-by : (P : Router → Type 0) (a : Arrival) (r : Router) → P r → ((x : Packet) (i : ℕ) (l : List ℕ) → a ≡ accepted x → r.free ≡ i ∷ l → P (stored-in i l x r)) → P (admitted a r)
unfolding admitted placed
admitted-by P absent r b f = b
admitted-by P (refused q) r b f = b
admitted-by P (accepted x) r b f = go r.free refl
  where
    go : (l : List ℕ) → r.free ≡ l → P (placed l x r)
    go [] e = b
    go (i ∷ l) e = f x i l refl e

-- What holds of a router, and of it less a port somewhere, holds after a packet is sent.
pub sent-by : (P : Router → Type 0) (p : ℕ) (g : Grant (ℕ × Packet)) (r : Router) → Rests r p g → P r → ((i : ℕ) → i < 256 → P (lost-in i p r)) → P (sent p g r)
unfolding sent
sent-by P p nobody r R b f = b
sent-by P p best_effort r R b f = b
sent-by P p (on_time (i, x)) r R b f = f i R.0
sent-by P p (early (i, x)) r R b f = f i R.0

-- ---- arrivals

module _ (c : ℕ) where
  -- What an accepted packet has passed.
  pub record Passed (r : Router) (arriving p : ℕ) (k : List ℕ) (u : ℤ) (x : Packet) : Type 0 where
    pub brought : has arriving p ≡ true
    pub refusal : arrival_refusal c r k u ≡ 0
    pub packet : made c r p k u ≡ x

  -- A no is answered by 6 or more.
  refused-by : (a b d : Bool) → asked (arrival_questions a b d) ≢ 0 → 6 ≤ asked (arrival_questions a b d)
  unfolding asked
  refused-by false b d n = omega arith
  refused-by true false d n = omega arith
  refused-by true true false n = omega arith
  refused-by true true true n = absurd (n refl)

  -- A packet is absent, or refused by 6 or more, or it has passed them all.
  pub arrival-by : (r : Router) (arriving p : ℕ) (k : List ℕ) (u : ℤ) (P : Arrival → Type 0) → P absent → ((q : ℕ) → 6 ≤ q → P (refused q)) → (Passed r arriving p k u (made c r p k u) → P (accepted (made c r p k u))) → P (arrival c r arriving p k u)
  unfolding arrival arrival_refusal
  arrival-by r arriving p k u P a b d = go (has arriving p) refl (ℕ_discrete q 0)
    where
      q : ℕ
      q = arrival_refusal c r k u

      at_least : q ≢ 0 → 6 ≤ q
      at_least n = refused-by _ _ _ n

      go : (s : Bool) → has arriving p ≡ s → Dec (q ≡ 0) → P (cond s (cond (eqb q 0) (accepted (made c r p k u)) (refused q)) absent)
      go false e n = a
      go true e (yes z) = rw (eq-eqb q 0 z) (d (record { brought = e; refusal = z; packet = refl }))
      go true e (no n) = rw (ne_eqb q 0 n) (b q (at_least n))

  -- So an accepted packet has passed them.
  pub arrival-passed : (r : Router) (arriving p : ℕ) (k : List ℕ) (u : ℤ) (x : Packet) → arrival c r arriving p k u ≡ accepted x → Passed r arriving p k u x
  arrival-passed r arriving p k u x = arrival-by r arriving p k u (λ a. a ≡ accepted x → Passed r arriving p k u x)
      (λ e. let z : ◌≡◌ {A = ℕ} 0 1 = cc in absurd (omega arith)) (λ q l e. let z : ◌≡◌ {A = ℕ} 0 1 = cc in absurd (omega arith)) (λ m e. subst (Passed r arriving p k u) (cc) m)

  -- What is answered by 1 is accepted: a refused packet has 6 or more.
  pub arrival-taken : (r : Router) (arriving p : ℕ) (k : List ℕ) (u : ℤ) → let a = arrival c r arriving p k u in arrival_code a ≡ 1 → (x : Packet) × (a ≡ accepted x)
  unfolding arrival_code
  arrival-taken r arriving p k u = arrival-by r arriving p k u (λ a. arrival_code a ≡ 1 → (x : Packet) × (a ≡ accepted x)) (λ e. absurd (omega arith)) (λ q l e. absurd (omega arith)) (λ m e. (made c r p k u, refl))

  -- Its entry is open, and its deadline not past.
  pub arrival-entry : (r : Router) (k : List ℕ) (u : ℤ) → arrival_refusal c r k u ≡ 0 → (0 < (r.entry (byte k 0)).mask) × T (le_z r.clock (u +ℤ pos (r.entry (byte k 0)).delay))
  unfolding arrival_refusal
  arrival-entry r k u e =
      let m = (r.entry (byte k 0)).mask in
      let (a, f) = asked-passed (not (eqb m 0)) 5 _ e in
      let (b, g) = asked-passed (le_z r.clock (u +ℤ pos (r.entry (byte k 0)).delay)) 6 _ f in
      let n = eqb-false m 0 (not-false (eqb m 0) a) in
      (omega arith, true→T (le_z r.clock (u +ℤ pos (r.entry (byte k 0)).delay)) b)

  -- Where no place is free, 8 is the answer if the other questions are passed.
  pub arrival-room : (r : Router) (k : List ℕ) (u : ℤ) → arrival_refusal c r k u ≡ 0 → r.free ≡ [] → ⊥
  unfolding arrival_refusal asked
  arrival-room r k u e z =
      go (not (eqb (r.entry (byte k 0)).mask 0)) (le_z r.clock (u +ℤ pos (r.entry (byte k 0)).delay)) (subst (λ (l : List ℕ). arrival_refusal c (with_places r r.place l) k u ≡ 0) z e)
    where
      go : (a b : Bool) → ◌≡◌ {A = ℕ} (cond (not a) 6 (cond (not b) 7 8)) 0 → ⊥
      go false b e = omega arith
      go true false e = omega arith
      go true true e = omega arith

  -- The answer is that to the questions.
  pub arrival-code : (r : Router) (arriving p : ℕ) (k : List ℕ) (u : ℤ) → arrival_code (arrival c r arriving p k u) ≡ cond (has arriving p) (arrival_answer (arrival_refusal c r k u)) 0
  unfolding arrival arrival_code arrival_answer
  arrival-code r arriving p k u = go (has arriving p) (eqb (arrival_refusal c r k u) 0)
    where
      go : (h z : Bool) → arrival_code (cond h (cond z (accepted (made c r p k u)) (refused (arrival_refusal c r k u))) absent) ≡ cond h (cond z 1 (arrival_refusal c r k u)) 0
      go false z = refl
      go true true = refl
      go true false = refl

  -- An accepted packet takes a free place, a refused one takes none.
  pub arrival-free : (r : Router) (arriving p : ℕ) (k : List ℕ) (u : ℤ) → let a = arrival c r arriving p k u in length (admitted a r).free + counted (eqb (arrival_code a) 1) ≡ length r.free
  unfolding admitted placed arrival_code counted
  arrival-free r arriving p k u = arrival-by r arriving p k u (λ a. length (admitted a r).free + counted (eqb (arrival_code a) 1) ≡ length r.free) (omega arith) (λ q l. rw (ne_eqb q 1 (omega arith)) (omega arith)) (λ m. first r.free (arrival-room r k u m.refusal))
    where
      first : (l : List ℕ) → (l ≡ [] → ⊥) → length (placed l (made c r p k u) r).free + 1 ≡ length l
      first [] e = absurd (e refl)
      first (i ∷ l) e = omega arith

  -- It takes the first.
  pub arrival-drop : (r : Router) (arriving p : ℕ) (k : List ℕ) (u : ℤ) → let a = arrival c r arriving p k u in (admitted a r).free ≡ drop (counted (eqb (arrival_code a) 1)) r.free
  unfolding admitted placed arrival_code counted
  arrival-drop r arriving p k u = arrival-by r arriving p k u (λ a. (admitted a r).free ≡ drop (counted (eqb (arrival_code a) 1)) r.free) refl (λ q l. rw (ne_eqb q 1 (omega arith))) (λ m. first r.free (arrival-room r k u m.refusal))
    where
      first : (l : List ℕ) → (l ≡ [] → ⊥) → (placed l (made c r p k u) r).free ≡ drop 1 l
      first [] e = absurd (e refl)
      first (i ∷ l) e = refl

-- ---- free places

-- The first entry is one, and hides no other.
pub elem-first : (i : ℕ) (l : List ℕ) → elem i (i ∷ l) ≡ true
unfolding elem
elem-first i l = rw (eq-eqb i i refl)

pub elem-other : (i j : ℕ) (l : List ℕ) → j ≢ i → elem j (i ∷ l) ≡ elem j l
unfolding elem
elem-other i j l n = rw (ne_eqb j i n)

-- A place that is not held is empty.
held_none : (v : Option Held) → not (is_held v) ≡ true → v ≡ none
unfolding is_held
held_none none e = refl
held_none (some h) e = absurd (true≢false (sym e))

-- The first free place is taken.
module _ {f : ℕ → Option Held} {i : ℕ} {l : List ℕ} (K : Kept f (i ∷ l)) where
  -- It is one of the 256.
  pub first-place : i < 256
  first-place = K.places i (elem-first i l)

  -- It is empty.
  pub first-empty : f i ≡ none
  first-empty = held_none (f i) (sym (K.idle i first-place) ∙ elem-first i l)

  -- One free place less, one held more.
  pub kept-take : (h : Held) → Kept (put f i (some h)) l
  unfolding distinct elem stored tally is_held counted
  kept-take h = record {
    once = and_right (not (elem i l)) (distinct l) K.once;
    places = λ j e. K.places j (or_right (eqb j i) (elem j l) e);
    idle = λ j m. at j m (ℕ_discrete j i);
    all = let e = tally-put is_held f i (some h) first-place in let a = ap (λ v. counted (is_held v)) first-empty in let z = K.all in omega arith;
  }
    where
      at : (j : ℕ) → j < 256 → Dec (j ≡ i) → elem j l ≡ not (is_held (put f i (some h) j))
      at j m (yes q) = rw (q, put_same f i (some h)) (not-false (elem i l) (and_left (not (elem i l)) (distinct l) K.once))
      at j m (no q) = rw (put_other f i (some h) j q) (sym (elem-other i j l q) ∙ K.idle j m)

-- Heldness alone counts.
pub kept_same : {f g : ℕ → Option Held} {l : List ℕ} → ((j : ℕ) → is_held (g j) ≡ is_held (f j)) → Kept f l → Kept g l
unfolding stored
kept_same {f} {g} {l} e K = record {
  once = K.once;
  places = K.places;
  idle = λ j m. K.idle j m ∙ ap not (sym (e j));
  all = let q = count_same (λ j. is_held (g j)) (λ j. is_held (f j)) 256 (λ j m. e j) in let z = K.all in omega arith;
}

-- A held place is emptied, and free first: one held less, one free more.
kept_push : {f : ℕ → Option Held} {l : List ℕ} (i : ℕ) → i < 256 → is_held (f i) ≡ true → Kept f l → Kept (put f i none) (i ∷ l)
unfolding distinct stored tally is_held counted
kept_push {f} {l} i m h K = record {
  once = rw (K.idle i m, h) K.once;
  places = λ j e. inside j e (ℕ_discrete j i);
  idle = λ j n. at j n (ℕ_discrete j i);
  all = let e = tally-put is_held f i none m in let a = ap counted h in let z = K.all in omega arith;
}
  where
    inside : (j : ℕ) → elem j (i ∷ l) ≡ true → Dec (j ≡ i) → j < 256
    inside j e (yes q) = omega arith
    inside j e (no q) = K.places j (sym (elem-other i j l q) ∙ e)

    at : (j : ℕ) → j < 256 → Dec (j ≡ i) → elem j (i ∷ l) ≡ not (is_held (put f i none j))
    at j n (yes q) = rw (q, put_same f i none) (elem-first i l)
    at j n (no q) = rw (put_other f i none j q) (elem-other i j l q ∙ K.idle j n)

-- A place put with the heldness that it has.
pub held-put : (f : ℕ → Option Held) (i : ℕ) (v : Option Held) → is_held v ≡ is_held (f i) → (j : ℕ) → is_held (put f i v j) ≡ is_held (f j)
held-put f i v e j = go (ℕ_discrete j i)
  where
    go : Dec (j ≡ i) → is_held (put f i v j) ≡ is_held (f j)
    go (yes q) = rw (q, put_same f i v) e
    go (no q) = ap is_held (put_other f i v j q)

-- Losing a port empties no place.
pub held-lose : (p : ℕ) (v : Option Held) → is_held (lose p v) ≡ is_held v
unfolding lose is_held
held-lose p none = refl
held-lose p (some h) = refl

-- The free list once place i, which held v, holds h.
abbrev freed : Option Held → Option Held → ℕ → List ℕ → List ℕ
freed v h i l = cond (is_held v && not (is_held h)) (i ∷ l) l

-- Emptying loses no place.
pub emptied-kept : (T : ℤ) (n : ℕ) (w : Router) → n ≤ 256 → Kept w.place w.free → Kept (emptied T n w).place (emptied T n w).free
unfolding emptied remaining is_held
emptied-kept T zero w l K = K
emptied-kept T (suc n) w l K = go (emptied T n w).place (emptied T n w).free (emptied-kept T n w (omega arith) K) ((emptied T n w).place n) refl
  where
    drop-or : (f : ℕ → Option Held) (u : List ℕ) → Kept f u → (h : Held) → f n ≡ some h → (t : Bool) → Kept (put f n (cond t none (some h))) (freed (some h) (cond t none (some h)) n u)
    drop-or f u K h e true = kept_push n (omega arith) (ap is_held e) K
    drop-or f u K h e false = kept_same (held-put f n (some h) (sym (ap is_held e))) K

    go : (f : ℕ → Option Held) (u : List ℕ) → Kept f u → (v : Option Held) → f n ≡ v → Kept (put f n (remaining T v)) (freed v (remaining T v) n u)
    go f u K none e = kept_same (held-put f n none (sym (ap is_held e))) K
    go f u K (some h) e = drop-or f u K h e (is_due T h.packet || eqb h.left 0)

-- Emptying changes places and free places only.
pub emptied-frame : (T : ℤ) (n : ℕ) (w : Router) → emptied T n w ≡ with_places w (emptied T n w).place (emptied T n w).free
unfolding emptied
emptied-frame T zero w = refl
emptied-frame T (suc n) w =
    let r = emptied T n w in
    ap (λ s. with_places s (put r.place n (remaining T (r.place n))) (freed (r.place n) (remaining T (r.place n)) n r.free)) (emptied-frame T n w)

-- ---- what the emptying leaves in each place

-- Below n it has settled, from n on it is as before.
pub emptied-at : (T : ℤ) (n : ℕ) (w : Router) (i : ℕ) → (emptied T n w).place i ≡ cond (ltb i n) (remaining T (w.place i)) (w.place i)
unfolding emptied
emptied-at T zero w i = rw (le-ltb i 0 (omega arith))
emptied-at T (suc n) w i = go (emptied T n w).place (ℕ_discrete i n) (emptied-at T n w)
  where
    go : (f : ℕ → Option Held) → Dec (i ≡ n) → ((j : ℕ) → f j ≡ cond (ltb j n) (remaining T (w.place j)) (w.place j)) → put f n (remaining T (f n)) i ≡ cond (ltb i (suc n)) (remaining T (w.place i)) (w.place i)
    go f (yes q) h = rw (q, put_same f n (remaining T (f n)), h n, le-ltb n n (omega arith), lt-ltb n (suc n) (omega arith))
    go f (no q) h = rw (put_other f n (remaining T (f n)) i q, h i, ltb_iff i n i (suc n) (omega arith) (omega arith))

-- So all 256 have settled.
pub emptied-place : (T : ℤ) (w : Router) (i : ℕ) → i < 256 → (emptied T 256 w).place i ≡ remaining T (w.place i)
emptied-place T w i l = emptied-at T 256 w i ∙ rw (lt-ltb i 256 l)

-- By cases of the two tests.
remaining-some : (T : ℤ) (v : Option Held) (h : Held) → remaining T v ≡ some h → (v ≡ some h) × (is_due T h.packet ≡ false) × (eqb h.left 0 ≡ false)
unfolding remaining
remaining-some T none h e = none-some e
remaining-some T (some k) h e = go (is_due T k.packet) (eqb k.left 0) refl refl e
  where
    go : (s t : Bool) → is_due T k.packet ≡ s → eqb k.left 0 ≡ t → cond (s || t) none (some k) ≡ some h → (some k ≡ some h) × (is_due T h.packet ≡ false) × (eqb h.left 0 ≡ false)
    go true t p q e = none-some e
    go false true p q e = none-some e
    go false false p q e = (e, sym (ap (λ (y : Held). is_due T y.packet) (some_inj e)) ∙ p, sym (ap (λ (y : Held). eqb y.left 0) (some_inj e)) ∙ q)

-- What is held after the emptying was held before, is not due and has a port left.
pub emptied-held : (T : ℤ) (w : Router) (i : ℕ) → i < 256 → (h : Held) → (emptied T 256 w).place i ≡ some h → (w.place i ≡ some h) × (is_due T h.packet ≡ false) × (eqb h.left 0 ≡ false)
emptied-held T w i l h e = remaining-some T (w.place i) h (sym (emptied-place T w i l) ∙ e)

-- Emptied places go to the front of the free list, the last one first: by induction over the places.
pub emptied-free : (T : ℤ) (n : ℕ) (w : Router) → (l : List ℕ) × Falling l × ((j : ℕ) → elem j l ≡ true → j < n) × ((emptied T n w).free ≡ l ++ w.free)
unfolding emptied Falling elem
emptied-free T zero w = ([], tt, λ j e. absurd (true≢false (sym e)), refl)
emptied-free T (suc n) w = go (emptied-free T n w) (is_held ((emptied T n w).place n) && not (is_held (remaining T ((emptied T n w).place n))))
  where
    go : (l : List ℕ) × Falling l × ((j : ℕ) → elem j l ≡ true → j < n) × ((emptied T n w).free ≡ l ++ w.free) → (b : Bool)
        → (l : List ℕ) × Falling l × ((j : ℕ) → elem j l ≡ true → j < suc n) × (cond b (n ∷ (emptied T n w).free) (emptied T n w).free ≡ l ++ w.free)
    go (l, f, m, e) true = (n ∷ l, (m, f), λ j q. first-or-later j q (ℕ_discrete j n), ap (λ (l : List ℕ). n ∷ l) e)
      where
        first-or-later : (j : ℕ) → elem j (n ∷ l) ≡ true → Dec (j ≡ n) → j < suc n
        first-or-later j q (yes k) = omega arith
        first-or-later j q (no k) = let b = m j (rw (ne_eqb j n k) at q) in omega arith
    go (l, f, m, e) false = (l, f, λ j q. let b = m j q in omega arith, e)
