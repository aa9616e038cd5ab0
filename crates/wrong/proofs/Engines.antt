-- The tick of the claim of kept queues at each engine: its questions are computed once, and then its steps. A wrong engine gives another byte. Assumes nothing.
use Prim.Native.Nat.{ℕ}
use mathlib.Core.Path.{◌≡◌, refl, sym, ap, subst, ◌∙◌}
use mathlib.Core.Bool.{cond}
use mathlib.Core.List.{List, [], ◌∷◌, ◌++◌}
use native.Mathlib.Omega.{arith}
use lib.ListN.{take, drop, replicate}
use lib.Dec.{eqb}
use Rattle.rules.specs.Clock as K
use Rattle.rules.specs.Order as O
use Rattle.rules.specs.Areas as A
use Rattle.rules.specs.Areas.{Outcome, Grant, byte, asked}
use Rattle.rules.specs.Board as B
use Rattle.rules.specs.Board.{board8}
use Rattle.rules.specs.Tick as T
use Rattle.rules.specs.Questions as Q
use Rattle.rules.specs.Questions.{tick_refusal}
use Rattle.rules.specs.Calls.{Call, control, tick}
use Rattle.passes.specs.Sends as S
use Rattle.queues.specs.Table1 as U
use Rattle.queues.specs.Area as R
use Rattle.queues.specs.Engine as E
use Rattle.queues.specs.Engine.{Bench, questions}
use Rattle.queues.specs.QueuesAgree.{bench_step}
use Rattle.queues.specs.KeepsQueues.{reordered, plain_tick, ByTheArea, KeepsQueues}
use Rattle.wrong.specs.Engines as W
use Rattle.wrong.specs.Engines.{work_by, engine_by, kept, by_queues, anew, EnginesShutOut}

-- All that a tick of an engine computes with unfolds where this one does.
unfoldable computing : ℕ
unfolding K.plus K.minus K.signed K.offset O.by O.then O.on_time_first O.comparator O.better O.least O.all O.counted O.count O.top_first A.bits A.half A.value A.digits A.packet A.stamp A.payload A.packed A.has A.without A.ports_below A.grant_code A.areas_full A.answers_area A.elem A.distinct A.asked A.arrival_answer
    B.get_at B.put_at B.fresh8 T.granted T.grant_bytes T.arrival_refusal T.arrival T.placed T.arrived T.slot_key T.candidate T.grant T.sent T.withdrawals T.withdrawn T.returned
    Q.full Q.settings_sound Q.stack Q.stack_sound Q.slot_sound Q.slots_sound Q.tick_refusal S.sent_by U.before U.waits R.queue R.put_queue R.size R.entry R.resized R.put_entry R.placed R.inserted R.rest
    E.each_port E.first_of E.filled E.received E.heading E.table_grant E.queue_grant E.shortened E.sent_from E.moved_over E.arrived_bench E.ticked_by E.is_first_fitting E.fitting work_by reordered
computing = 0

-- The questions pass.
accepted : asked (questions board8 reordered (tick_refusal board8 reordered.store 0 0 (replicate 100 0) (replicate 100 9) (replicate 20 9))) ≡ 0
unfolding computing
accepted = refl

-- ---- the tick

module _ (from : Bench → Bench) (choose : Bench → ℕ → ℕ → Grant ℕ) (leaves : Bench → Bench) where
  -- So an engine of any parts does its work.
  works : engine_by from choose leaves reordered plain_tick ≡ work_by from choose leaves reordered 0 0 (replicate 100 0)
  unfolding engine_by
  works = ap (λ (n : ℕ). cond (eqb n 0) (work_by from choose leaves reordered 0 0 (replicate 100 0)) (record { reply = record { number = n; outgoing = replicate 100 9; answers = replicate 20 9 }; after = reordered })) accepted

  -- Where it keeps its queues, the work goes by the area.
  by-the-area : KeepsQueues (engine_by from choose leaves) → ByTheArea (work_by from choose leaves reordered 0 0 (replicate 100 0))
  unfolding KeepsQueues
  by-the-area K = subst ByTheArea works K

-- Ours is the one built of our parts.
own_parts : (b : Bench) (k : Call) → engine_by kept by_queues kept b k ≡ bench_step board8 b k
unfolding engine_by work_by bench_step E.tick E.ticked E.arrived_bench E.ticked_by
own_parts b (control register v) = refl
own_parts b (tick k out ans) = refl

-- What it does.
abbrev ours : Outcome Bench
ours = work_by kept by_queues kept reordered 0 0 (replicate 100 0)

-- Of its area the two sizes change.
two-sizes : ours.after.queues ≡ (0 ∷ 2 ∷ 0 ∷ 1 ∷ 2 ∷ []) ++ replicate 769 0 ++ (0 ∷ 2 ∷ 3 ∷ 4 ∷ 5 ∷ []) ++ replicate 1801 0
unfolding computing
two-sizes = refl

ours-by-the-area : ByTheArea ours
unfolding computing
ours-by-the-area = record { number = refl; outgoing = refl; answers = refl; slots = refl; on_time = ap (take 4) two-sizes; early = ap (λ (q : List ℕ). take 4 (drop 774 q)) two-sizes }

keeps : KeepsQueues (bench_step board8)
unfolding KeepsQueues
keeps = subst ByTheArea (sym (works kept by_queues kept) ∙ own_parts reordered plain_tick) ours-by-the-area

-- ---- the wrong ones

-- Port 0 sends the packet of identifier 40, which the comparator puts first, and not 42.
refills_first : KeepsQueues W.refills_first → ⊥
unfolding computing
refills_first K = let e : ◌≡◌ {A = ℕ} 40 42 = ap (λ (l : List ℕ). byte l 0) (by-the-area anew by_queues kept K).outgoing in omega arith

asks_comparator : KeepsQueues W.asks_comparator → ⊥
unfolding computing
asks_comparator K = let e : ◌≡◌ {A = ℕ} 40 42 = ap (λ (l : List ℕ). byte l 0) (by-the-area kept _ kept K).outgoing in omega arith

-- The last of the two that are left is slot 1, and not slot 0.
refills_last : KeepsQueues W.refills_last → ⊥
unfolding computing
refills_last K = let e : ◌≡◌ {A = ℕ} 1 0 = ap (λ (l : List ℕ). byte l 2) (by-the-area kept by_queues anew K).on_time in omega arith

pub engines-shut-out : EnginesShutOut
engines-shut-out = record { own_parts = own_parts; keeps = keeps; refills_first = refills_first; refills_last = refills_last; asks_comparator = asks_comparator }
