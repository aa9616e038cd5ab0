-- What the engine's operations do to the lists of slots that the queues hold: each port changes its own queues alone, so that they can be looked at one port at a time. Assumes nothing.
use Prim.Native.Nat.{ℕ, zero, suc, ◌+◌, ◌-◌, ◌<◌, ◌≤◌}
use mathlib.Core.Path.{◌≡◌, refl, sym, ap, ◌∙◌}
use mathlib.Core.Bool.{Bool, true, false, cond, not, ◌&&◌, beq, true≢false}
use mathlib.Core.Logic.{◌≢◌}
use mathlib.Core.List.{List, [], ◌∷◌}
use native.Mathlib.Decide.{ℕ_discrete}
use native.Mathlib.Omega.{arith}
use lib.ListN.{length, length-replicate}
use Rattle.rules.specs.Order.{Order, top_first}
use Rattle.rules.specs.Areas.{has, Grant, nobody, best_effort, on_time, early, grant_code, answers_area}
use Rattle.rules.specs.Board.{Board, Idle, Mask}
use Rattle.rules.specs.Tick.{is_early, is_due, grant_bytes, withdrawals}
use Rattle.rules.proofs.AreaLaws.{ports_below-same}
use Rattle.passes.specs.Sends.{sent_by}
use Rattle.queues.specs.Table1.{before}
use Rattle.queues.specs.Area.{queue_length, queues_length, queue, put_queue, size, entry, in_queue, resized, inserted, rest}
use Rattle.queues.specs.Engine.{Bench, each_port, shortened, sent_from, enter, entered, filled, received, due_from, moved_over, move_over, ticked_by}
use Rattle.queues.proofs.ListLaws.{place, dropped, moved}
use Rattle.queues.proofs.QueueLaws.{length-resized, length_inserted, length-put_queue, length-queue, queue-same, queue-other, length-in_queue, in_queue-none, in_queue-first, size-resized, inserted-places, size-inserted, others, shortened-others, shortened-rest, rest-dropped}

-- The slots in the queue of port p, the early one if e.
abbrev pub held : List ℕ → ℕ → Bool → List ℕ
held q p e = in_queue (queue q p e)

-- ---- one port

-- The area q' is q but for the queues of port p.
pub record Only (p : ℕ) (q q' : List ℕ) : Type 0 where
  pub sized : length q' ≡ queues_length
  pub away : (r : ℕ) (e : Bool) → r ≢ p → queue q' r e ≡ queue q r e

-- Port p changes its own queues alone.
abbrev pub Alone : (ℕ → List ℕ → List ℕ) → Type 0
Alone f = (p : ℕ) → p < 5 → (q : List ℕ) → length q ≡ queues_length → Only p q (f p q)

-- Nothing is changed, one queue is stored, and one change after the other.
only_none : (p : ℕ) (q : List ℕ) → length q ≡ queues_length → Only p q q
only_none p q sized = record { sized = sized; away = λ r e n. refl }

only-put : (p : ℕ) (e : Bool) (x q : List ℕ) → length q ≡ queues_length → length x ≡ queue_length → Only p q (put_queue p e x q)
only-put p e x q sized h = record { sized = length-put_queue p e x q ∙ sized; away = λ r d n. queue-other q x p r e d h (λ a b. n (sym a)) }

only_then : {p : ℕ} {q q' q'' : List ℕ} → Only p q q' → Only p q' q'' → Only p q q''
only_then a b = record { sized = b.sized; away = λ r e n. b.away r e n ∙ a.away r e n }

-- ---- one port after the other

module _ {f : ℕ → List ℕ → List ℕ} (alone : Alone f) (q : List ℕ) (sized : length q ≡ queues_length) where
  -- The area keeps its length.
  length-below : (n : ℕ) → n ≤ 5 → length (each_port f n q) ≡ queues_length
  unfolding each_port
  length-below zero h = sized
  length-below (suc n) h = (alone n h (each_port f n q) (length-below n (omega arith))).sized

  length-each : length (each_port f 5 q) ≡ queues_length
  length-each = length-below 5 (omega arith)

  -- The ports below n leave the queues of the others.
  each-others : (n : ℕ) → n ≤ 5 → (p : ℕ) → n ≤ p → (e : Bool) → queue (each_port f n q) p e ≡ queue q p e
  unfolding each_port
  each-others zero h p l e = refl
  each-others (suc n) h p l e = (alone n h (each_port f n q) (length-below n (omega arith))).away p e (λ z. absurd (omega arith)) ∙ each-others n (omega arith) p (omega arith) e

  -- So the queues of port p are left as it leaves them.
  each-own : (n : ℕ) → n ≤ 5 → (p : ℕ) → p < n → (e : Bool) → queue (each_port f n q) p e ≡ queue (f p (each_port f p q)) p e
  unfolding each_port
  each-own zero h p l e = absurd (omega arith)
  each-own (suc n) h p l e = go (ℕ_discrete p n) (λ m. each-own n (omega arith) p m e)
    where
      go : Dec (p ≡ n) → (p < n → queue (each_port f n q) p e ≡ queue (f p (each_port f p q)) p e) → queue (f n (each_port f n q)) p e ≡ queue (f p (each_port f p q)) p e
      go (yes z) below = rw z
      go (no z) below = (alone n h (each_port f n q) (length-below n (omega arith))).away p e z ∙ below (omega arith)

  -- What port p leaves of every area with its queues as they are, it leaves here.
  each-held : (p : ℕ) → p < 5 → (e : Bool) {l : List ℕ} → ((q₀ : List ℕ) → length q₀ ≡ queues_length → ((d : Bool) → queue q₀ p d ≡ queue q p d) → held (f p q₀) p e ≡ l) → held (each_port f 5 q) p e ≡ l
  each-held p h e own = ap in_queue (each-own 5 (omega arith) p h e) ∙ own (each_port f p q) (length-below p (omega arith)) (each-others p (omega arith) p (omega arith))

-- ---- a queue of port p

module _ (q : List ℕ) (sized : length q ≡ queues_length) (p : ℕ) (h : p < 5) where
  -- It is stored.
  put-held : (d : Bool) (x : List ℕ) → length x ≡ queue_length → (e : Bool) → held (put_queue p d x q) p e ≡ cond (beq d e) (in_queue x) (held q p e)
  put-held true x l true = ap in_queue (queue-same q x p true sized h l)
  put-held true x l false = ap in_queue (queue-other q x p p true false l (λ a b. true≢false b))
  put-held false x l true = ap in_queue (queue-other q x p p false true l (λ a b. true≢false (sym b)))
  put-held false x l false = ap in_queue (queue-same q x p false sized h l)

  -- It is stored with another size.
  length-less : (d : Bool) (n : ℕ) → length (resized n (queue q p d)) ≡ queue_length
  length-less d n = length-resized n (queue q p d) ∙ length-queue q p d sized h

  -- Its first leaves.
  only-shortened : (d : Bool) → Only p q (shortened p d q)
  unfolding shortened
  only-shortened d = only-put p d (resized (size (queue q p d) - 1) (queue q p d)) q sized (length-less d (size (queue q p d) - 1))

  shortened-held : (d e : Bool) → held (shortened p d q) p e ≡ cond (beq d e) (others (held q p d)) (held q p e)
  unfolding shortened
  shortened-held d e =
      put-held d (resized (size (queue q p d) - 1) (queue q p d)) (length-less d (size (queue q p d) - 1)) e
      ∙ ap (λ (l : List ℕ). cond (beq d e) l (held q p e)) (shortened-others (queue q p d) (length-queue q p d sized h))

-- ---- step 3

-- The list of the sort e without what the grant sends.
abbrev pub less_first : Grant ℕ → Bool → List ℕ → List ℕ
less_first nobody e l = l
less_first best_effort e l = l
less_first (on_time i) e l = cond e l (others l)
less_first (early i) e l = cond e (others l) l

-- Port p changes one of its queues, or none.
only-sent : (p : ℕ) → p < 5 → (q : List ℕ) → length q ≡ queues_length → (g : Grant ℕ) → Only p q (sent_from g p q)
unfolding sent_from
only-sent p h q sized nobody = only_none p q sized
only-sent p h q sized best_effort = only_none p q sized
only-sent p h q sized (on_time i) = only-shortened q sized p h false
only-sent p h q sized (early i) = only-shortened q sized p h true

-- What it sends leaves its queue.
from-held : (p : ℕ) → p < 5 → (q : List ℕ) → length q ≡ queues_length → (g : Grant ℕ) (e : Bool) → held (sent_from g p q) p e ≡ less_first g e (held q p e)
unfolding sent_from
from-held p h q sized nobody e = refl
from-held p h q sized best_effort e = refl
from-held p h q sized (on_time i) true = shortened-held q sized p h false true
from-held p h q sized (on_time i) false = shortened-held q sized p h false false
from-held p h q sized (early i) true = shortened-held q sized p h true true
from-held p h q sized (early i) false = shortened-held q sized p h true false

module _ (g : ℕ → Grant ℕ) (q : List ℕ) (sized : length q ≡ queues_length) where
  -- What is sent leaves its queue alone.
  pub length-sent : length (each_port (λ p. sent_from (g p) p) 5 q) ≡ queues_length
  length-sent = length-each (λ p h q sized. only-sent p h q sized (g p)) q sized

  pub sent-held : (p : ℕ) → p < 5 → (e : Bool) → held (each_port (λ p. sent_from (g p) p) 5 q) p e ≡ less_first (g p) e (held q p e)
  sent-held p h e = each-held (λ p h q sized. only-sent p h q sized (g p)) q sized p h e (λ q₀ z same. from-held p h q₀ z (g p) e ∙ rw (same e))

module _ (B : Board) (s : List ℕ) where
  open B use {get}

  -- ---- slots come in

  module _ (i : ℕ) where
    -- A slot changes the queues of one port after the other.
    only-entered : Alone (enter B s i)
    only-entered p h q sized = go (has (get s (Mask, i)) p) _ _
      where
        go : (t d : Bool) (less : Order ℕ) → Only p q (cond t (put_queue p d (inserted less i (queue q p d)) q) q)
        go true d less = only-put p d (inserted less i (queue q p d)) q sized (length_inserted less i (queue q p d) ∙ length-queue q p d sized h)
        go false d less = only_none p q sized

    -- Of port p, it comes into the queue of its sort, if its mask has the port.
    enter-held : (p : ℕ) → p < 5 → (q : List ℕ) → length q ≡ queues_length → (e : Bool) → size (queue q p e) < 256
        → held (enter B s i p q) p e ≡ cond (has (get s (Mask, i)) p && beq (is_early B s i) e) (place (before B s) i (held q p e)) (held q p e)
    enter-held p h q sized e room = go (has (get s (Mask, i)) p) (is_early B s i)
      where
        placed : (d e : Bool) → size (queue q p e) < 256
            → cond (beq d e) (in_queue (inserted (before B s) i (queue q p d))) (held q p e) ≡ cond (beq d e) (place (before B s) i (held q p e)) (held q p e)
        placed true true room = inserted-places (before B s) i (queue q p true) (length-queue q p true sized h) room
        placed true false room = refl
        placed false true room = refl
        placed false false room = inserted-places (before B s) i (queue q p false) (length-queue q p false sized h) room

        go : (t d : Bool) → held (cond t (put_queue p d (inserted (before B s) i (queue q p d)) q) q) p e ≡ cond (t && beq d e) (place (before B s) i (held q p e)) (held q p e)
        go true d = put-held q sized p h d (inserted (before B s) i (queue q p d)) (length_inserted (before B s) i (queue q p d) ∙ length-queue q p d sized h) e ∙ placed d e room
        go false d = refl

    module _ (q : List ℕ) (sized : length q ≡ queues_length) where
      -- It comes into the queue of its sort of each port of its mask.
      length-entered : length (entered B s i q) ≡ queues_length
      length-entered = length-each only-entered q sized

      pub entered-held : (p : ℕ) → p < 5 → (e : Bool) → size (queue q p e) < 256
          → held (entered B s i q) p e ≡ cond (has (get s (Mask, i)) p && beq (is_early B s i) e) (place (before B s) i (held q p e)) (held q p e)
      entered-held p h e room = each-held only-entered q sized p h e (λ q₀ z same. enter-held p h q₀ z e (rw (same e) room) ∙ rw (same e))

  -- One slot after the other.
  pub length-filled : (n : ℕ) → length (filled B s n) ≡ queues_length
  unfolding filled
  length-filled zero = length-replicate {A = ℕ} 2580 0
  length-filled (suc n) = length-entered n (filled B s n) (length-filled n)

  pub length-received : (n k : ℕ) (q : List ℕ) → length q ≡ queues_length → length (received B s n k q) ≡ queues_length
  unfolding received
  length-received n zero q sized = sized
  length-received n (suc k) q sized = length-entered (get s (Idle, n - suc k)) (received B s n k q) (length-received n k q sized)

  -- ---- step 4

  -- Port p stores its on-time queue.
  length-on-time : (p : ℕ) → p < 5 → (q : List ℕ) → length q ≡ queues_length → length (resized (rest (is_due B s) (queue q p false) (size (queue q p false))) (queue q p false)) ≡ queue_length
  length-on-time p h q sized = length-less q sized p h false (rest (is_due B s) (queue q p false) (size (queue q p false)))

  only-due : Alone (due_from B s)
  only-due p h q sized = only-put p false _ q sized (length-resized _ _ ∙ length-queue q p false sized h)

  -- ---- the clock has advanced

  -- A slot is not early any more.
  abbrev pub turned : ℕ → Bool
  turned i = not (is_early B s i)

  module _ (p : ℕ) (h : p < 5) where
    -- The first of the early queue moves over, slot i.
    over : ℕ → List ℕ → List ℕ
    over i q = put_queue p false (inserted (before B s) i (queue q p false)) (shortened p true q)

    module _ (i : ℕ) (q : List ℕ) (sized : length q ≡ queues_length) where
      length_over : length (inserted (before B s) i (queue q p false)) ≡ queue_length
      length_over = length_inserted (before B s) i (queue q p false) ∙ length-queue q p false sized h

      only-over : Only p q (over i q)
      unfolding over
      only-over =
          let a = only-shortened q sized p h true in
          only_then a (only-put p false (inserted (before B s) i (queue q p false)) (shortened p true q) a.sized length_over)

      -- Its two queues then.
      over-early : queue (over i q) p true ≡ resized (size (queue q p true) - 1) (queue q p true)
      unfolding over shortened
      over-early =
          queue-other (shortened p true q) (inserted (before B s) i (queue q p false)) p p false true length_over (λ a b. true≢false (sym b))
          ∙ queue-same q (resized (size (queue q p true) - 1) (queue q p true)) p true sized h (length-less q sized p h true (size (queue q p true) - 1))

      over-on-time : queue (over i q) p false ≡ inserted (before B s) i (queue q p false)
      unfolding over
      over-on-time = queue-same (shortened p true q) (inserted (before B s) i (queue q p false)) p false (only-shortened q sized p h true).sized h length_over

    -- As many as n move over.
    only-moved_over : (n : ℕ) (q : List ℕ) → length q ≡ queues_length → Only p q (moved_over B s p n q)
    unfolding moved_over over
    only-moved_over zero q sized = only_none p q sized
    only-moved_over (suc n) q sized = let i = entry (queue q p true) n in let a = only-over i q sized in go (is_early B s i) (only_then a (only-moved_over n (over i q) a.sized))
      where
        go : (t : Bool) → Only p q (moved_over B s p n (over (entry (queue q p true) n) q)) → Only p q (cond t q (moved_over B s p n (over (entry (queue q p true) n) q)))
        go true a = only_none p q sized
        go false a = a

    -- Those that turned on time, from the first on.
    moved_over-held : (n : ℕ) (q : List ℕ) → length q ≡ queues_length → size (queue q p true) ≡ n → size (queue q p false) + n ≤ 256
        → (held (moved_over B s p n q) p true ≡ dropped turned (held q p true)) × (held (moved_over B s p n q) p false ≡ moved (before B s) turned (held q p true) (held q p false))
    unfolding moved_over over dropped moved
    moved_over-held zero q sized e room = let z = in_queue-none (queue q p true) e in (rw z, rw z)
    moved_over-held (suc n) q sized e room =
        let i = entry (queue q p true) n in
        let x = queue q p true in
        let y = queue q p false in
        let ly = length-queue q p false sized h in
        let lx = length-queue q p true sized h in
        let m : size (queue (over i q) p true) ≡ n = ap size (over-early i q sized) ∙ size-resized (size x - 1) x (omega arith) ∙ omega arith in
        let k : size (queue (over i q) p false) ≡ size y + 1 = ap size (over-on-time i q sized) ∙ size-inserted (before B s) i y ly (omega arith) in
        go (is_early B s i) refl (in_queue-first x n e)
        (ap in_queue (over-early i q sized) ∙ shortened-rest x lx i (top_first (entry x) n) (in_queue-first x n e))
        (ap in_queue (over-on-time i q sized) ∙ inserted-places (before B s) i y ly (omega arith))
        (moved_over-held n (over i q) (only-over i q sized).sized m (omega arith))
      where
        go : (t : Bool) → is_early B s (entry (queue q p true) n) ≡ t → held q p true ≡ entry (queue q p true) n ∷ top_first (entry (queue q p true)) n
            → held (over (entry (queue q p true) n) q) p true ≡ top_first (entry (queue q p true)) n
            → held (over (entry (queue q p true) n) q) p false ≡ place (before B s) (entry (queue q p true) n) (held q p false)
            → let q' = over (entry (queue q p true) n) q in
            (held (moved_over B s p n q') p true ≡ dropped turned (held q' p true)) × (held (moved_over B s p n q') p false ≡ moved (before B s) turned (held q' p true) (held q' p false))
            → (held (cond t q (moved_over B s p n q')) p true ≡ dropped turned (held q p true)) × (held (cond t q (moved_over B s p n q')) p false ≡ moved (before B s) turned (held q p true) (held q p false))
        go true t first a b r = (rw (first, t), rw (first, t))
        go false t first a b r = (r.0 ∙ rw (a, first, t), r.1 ∙ rw (a, b, first, t))

  -- All that did.
  only-moved : Alone (move_over B s)
  only-moved p h q sized = only-moved_over p h _ q sized

  module _ (q : List ℕ) (sized : length q ≡ queues_length) where
    -- What is due leaves the on-time queues.
    pub length-due : length (each_port (due_from B s) 5 q) ≡ queues_length
    length-due = length-each only-due q sized

    -- What is not early any more moves over.
    pub length_moved : length (each_port (move_over B s) 5 q) ≡ queues_length
    length_moved = length-each only-moved q sized

    module _ (p : ℕ) (h : p < 5) where
      pub due-on-time : held (each_port (due_from B s) 5 q) p false ≡ dropped (is_due B s) (held q p false)
      due-on-time =
          each-held only-due q sized p h false (λ q₀ z same.
          put-held q₀ z p h false (resized (rest (is_due B s) (queue q₀ p false) (size (queue q₀ p false))) (queue q₀ p false)) (length-on-time p h q₀ z) false
          ∙ rest-dropped (queue q₀ p false) (length-queue q₀ p false z h) (is_due B s) ∙ rw (same false))

      pub due-early : held (each_port (due_from B s) 5 q) p true ≡ held q p true
      due-early =
          each-held only-due q sized p h true (λ q₀ z same.
          put-held q₀ z p h false (resized (rest (is_due B s) (queue q₀ p false) (size (queue q₀ p false))) (queue q₀ p false)) (length-on-time p h q₀ z) true ∙ rw (same true))

      module _ (room : length (held q p false) + length (held q p true) ≤ 256) where
        own-moved : (q₀ : List ℕ) → length q₀ ≡ queues_length → ((d : Bool) → queue q₀ p d ≡ queue q p d)
            → (held (move_over B s p q₀) p true ≡ dropped turned (held q p true)) × (held (move_over B s p q₀) p false ≡ moved (before B s) turned (held q p true) (held q p false))
        own-moved q₀ z same =
            let a = length-in_queue (queue q p false) in
            let b = length-in_queue (queue q p true) in
            let c = ap size (same false) in
            let d = ap size (same true) in
            let r = moved_over-held p h (size (queue q₀ p true)) q₀ z refl (omega arith) in
            (r.0 ∙ rw (same true), r.1 ∙ rw (same true, same false))

        pub moved-early : held (each_port (move_over B s) 5 q) p true ≡ dropped turned (held q p true)
        moved-early = each-held only-moved q sized p h true (λ q₀ z same. (own-moved q₀ z same).0)

        pub moved-on-time : held (each_port (move_over B s) 5 q) p false ≡ moved (before B s) turned (held q p true) (held q p false)
        moved-on-time = each-held only-moved q sized p h false (λ q₀ z same. (own-moved q₀ z same).1)

-- ---- a tick by equal grants

-- What the ports below n do.
each_same : {f f' : ℕ → List ℕ → List ℕ} (q : List ℕ) (n : ℕ) → ((p : ℕ) → p < n → f p ≡ f' p) → each_port f n q ≡ each_port f' n q
unfolding each_port
each_same q zero h = refl
each_same {f} q (suc n) h = ap (f n) (each_same q n (λ p l. h p (omega arith))) ∙ rw (h n (omega arith))

-- The answers.
answers-same : {g g' a a' : ℕ → ℕ} (n : ℕ → ℕ) → ((p : ℕ) → p < 5 → g p ≡ g' p) → ((p : ℕ) → p < 5 → a p ≡ a' p) → answers_area g a n ≡ answers_area g' a' n
unfolding answers_area
answers-same {g} {g'} {a} {a'} n G A =
    rw (ports_below-same (λ p. g p ∷ []) (λ p. g' p ∷ []) 5 (λ p l. rw (G p l)), ports_below-same (λ p. a p ∷ []) (λ p. a' p ∷ []) 5 (λ p l. rw (A p l)))

module _ (B : Board) {g g' : ℕ → Grant ℕ} (same : (p : ℕ) → p < 5 → g p ≡ g' p) where
  -- What is sent.
  sent_by-same : (s : List ℕ) (n : ℕ) → n ≤ 5 → sent_by B g n s ≡ sent_by B g' n s
  unfolding sent_by
  sent_by-same s zero h = refl
  sent_by-same s (suc n) h = rw (sent_by-same s n (omega arith), same n h)

  -- A tick looks at the grants and the arrivals of the five ports only.
  pub ticked-by-same : {met met' : ℕ → ℕ} → ((p : ℕ) → p < 5 → met p ≡ met' p) → (b : Bench) → ticked_by B g met b ≡ ticked_by B g' met' b
  unfolding ticked_by
  ticked-by-same {met} {met'} arrivals b =
      rw (
        sent_by-same b.store.state 5 (omega arith),
        ports_below-same (λ p. grant_bytes b.store.memory (g p)) (λ p. grant_bytes b.store.memory (g' p)) 5 (λ p l. rw (same p l)),
        answers-same {g = λ p. grant_code (g p)} {g' = λ p. grant_code (g' p)} {a = met} {a' = met'} (withdrawals B (sent_by B g' 5 b.store.state)) (λ p l. rw (same p l)) arrivals,
        each_same {f = λ p. sent_from (g p) p} {f' = λ p. sent_from (g' p) p} b.queues 5 (λ p l. rw (same p l)),
      )
