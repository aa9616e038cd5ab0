-- The text of a tick by its parts: five characters with the clock, four for each port, and five with the number withdrawn. Assumes nothing.
use Prim.Native.Nat.{ℕ, zero, suc, ◌+◌, ◌*◌, ◌<◌}
use mathlib.Core.Path.{◌≡◌, refl, sym, ap, ◌∙◌}
use mathlib.Core.List.{List, [], ◌∷◌, ◌++◌, append_assoc}
use native.Mathlib.Decide.{dec_lt}
use native.Mathlib.Omega.{arith}
use lib.ListN.{length, length-drop, take, drop}
use lib.Seq.{take_at, take-append-le, drop-append-le, drop-append-add, get_or-append-add, get_or-take, get_or-drop, drop-drop}
use Rattle.rules.specs.Areas.{byte, per_port}
use Rattle.rules.proofs.Booleans.{cons-rest, nil-cons}
use Rattle.rules.proofs.AreaLaws.{part-ports_below}
use Rattle.text.specs.Lines.{decimal, field, port_field, withdrawn_sum, tick_text}
use Rattle.text.proofs.Numbers.{length-decimal}
use Rattle.text.proofs.Characters.{length-field, length-port-field, length-ports}

module _ (t : ℕ) (out ans : List ℕ) where
  abbrev ports : List ℕ
  ports = per_port (port_field out ans)

  abbrev head : List ℕ
  head = 84 ∷ 32 ∷ decimal 3 t

  abbrev last : List ℕ
  last = 32 ∷ decimal 4 (withdrawn_sum ans)

  -- Five characters, four for each port, and five.
  text-parts : tick_text t out ans ≡ head ++ (ports ++ last)
  unfolding tick_text
  text-parts = ap (λ (l : List ℕ). 84 ∷ 32 ∷ l) (append_assoc (decimal 3 t) ports last)

  length-head : length head ≡ 5
  length-head = omega (arith, length-decimal 3 t)

  -- After the head; the ports' part; and after them.
  drop_head : (n : ℕ) → drop (5 + n) (tick_text t out ans) ≡ drop n (ports ++ last)
  drop_head n = rw text-parts (ap (λ (m : ℕ). drop m (head ++ (ports ++ last))) (let e : 5 + n ≡ length head + n = omega (arith, length-head) in e) ∙ drop-append-add head (ports ++ last) n)

  byte-after : (n : ℕ) → byte (tick_text t out ans) (5 + n) ≡ byte (ports ++ last) n
  byte-after n = rw text-parts (ap (byte (head ++ (ports ++ last))) (let e : 5 + n ≡ length head + n = omega (arith, length-head) in e) ∙ get_or-append-add head (ports ++ last) n 0)

  port-part : (p : ℕ) → p < 5 → take 4 (drop (4 * p) (ports ++ last)) ≡ port_field out ans p
  port-part p h =
      rw (drop-append-le (4 * p) ports last (omega (arith, length-ports out ans)), take-append-le 4 (drop (4 * p) ports) last (omega (arith, length-ports out ans, length-drop (4 * p) ports)))
      (part-ports_below 4 (port_field out ans) 5 (λ q m. length-port-field out ans q) p h)

  port-space : (p : ℕ) → p < 5 → byte (tick_text t out ans) (5 + 4 * p) ≡ 32
  unfolding port_field
  port-space p h =
      let l = drop (4 * p) (ports ++ last) in
      let e : 4 * p + 0 ≡ 4 * p = omega arith in
      byte-after (4 * p) ∙ ap (byte (ports ++ last)) (sym e) ∙ sym (get_or-drop (4 * p) (ports ++ last) 0 0) ∙ sym (get_or-take 4 l 0 0 (omega arith)) ∙ ap (λ (x : List ℕ). byte x 0) (port-part p h)

  pub port-field : (p : ℕ) → p < 5 → take 3 (drop (6 + 4 * p) (tick_text t out ans)) ≡ field (byte ans p) (byte out (20 * p))
  unfolding port_field
  port-field p h =
      let f = field (byte ans p) (byte out (20 * p)) in
      let l = drop (4 * p) (ports ++ last) in
      let e : 6 + 4 * p ≡ 5 + (4 * p + 1) = omega arith in
      rw (e, drop_head (4 * p + 1), ← drop-drop 1 (4 * p) (ports ++ last)) (tail_of l f (port-part p h) (length-field (byte ans p) (byte out (20 * p))))
    where
      tail_of : (l f : List ℕ) → take 4 l ≡ 32 ∷ f → length f ≡ 3 → take 3 (drop 1 l) ≡ f
      tail_of [] f e n = nil-cons e
      tail_of (x ∷ l) f e n = cons-rest e

  pub count-part : drop 26 (tick_text t out ans) ≡ decimal 4 (withdrawn_sum ans)
  count-part =
      rw (drop_head 21) (ap (λ (n : ℕ). drop n (ports ++ last)) (let e : 21 ≡ length ports + 1 = omega (arith, length-ports out ans) in e) ∙ drop-append-add ports last 1)

  last-space : byte (tick_text t out ans) 25 ≡ 32
  last-space = byte-after 20 ∙ ap (byte (ports ++ last)) (let e : 20 ≡ length ports + 0 = omega (arith, length-ports out ans) in e) ∙ get_or-append-add ports last 0 0

  pub all-spaces : (i : ℕ) → i < 7 → byte (tick_text t out ans) (1 + 4 * i) ≡ 32
  unfolding tick_text
  all-spaces zero h = refl
  all-spaces (suc i) h = go (dec_lt i 5)
    where
      go : Dec (i < 5) → byte (tick_text t out ans) (1 + 4 * suc i) ≡ 32
      go (yes l) = ap (byte (tick_text t out ans)) (let e : 1 + 4 * suc i ≡ 5 + 4 * i = omega arith in e) ∙ port-space i l
      go (no l) = ap (byte (tick_text t out ans)) (let e : 1 + 4 * suc i ≡ 25 = omega arith in e) ∙ last-space

  pub clock-part : take 3 (drop 2 (tick_text t out ans)) ≡ decimal 3 t
  clock-part = rw text-parts (take_at (decimal 3 t) (ports ++ last) 3 (length-decimal 3 t))
