-- The characters of a text, by its parts: how many a tick's has, that none of them is a line feed, and that a line ends at the first one. Assumes nothing.
use Prim.Native.Nat.{ℕ, zero, suc, ◌+◌, ◌*◌, ◌/◌, ◌%◌}
use mathlib.Core.Path.{◌≡◌, refl, ap}
use mathlib.Core.Bool.{Bool, true, false, cond}
use mathlib.Core.List.{List, [], ◌∷◌, ◌++◌, append-nil}
use mathlib.Core.Logic.{◌≢◌}
use native.Mathlib.Omega.{arith}
use lib.ListN.{length, length-append, replicate}
use lib.Seq.{append_snoc}
use lib.Dec.{eqb, ltb}
use borrow.Author.Tests.{ne_eqb}
use Rattle.rules.specs.Areas.{packet_length, byte, ports_below, per_port}
use Rattle.rules.proofs.AreaLaws.{length-ports_below}
use Rattle.text.specs.Lines.{decimal, hex, field, port_field, withdrawn_sum, tick_text}
use Rattle.text.specs.Characters.{NoFeed, cut_from}
use Rattle.text.proofs.Numbers.{length-decimal}

-- ---- lengths

pub length-field : (code identifier : ℕ) → length (field code identifier) ≡ 3
unfolding field
length-field code identifier = go (eqb code 0) (eqb code 2)
  where
    go : (a b : Bool) → length (cond a (45 ∷ 45 ∷ 45 ∷ []) (cond b (98 ∷ 101 ∷ 102 ∷ []) (hex (identifier / 16) ∷ hex (identifier % 16) ∷ cond (eqb code 1) 78 69 ∷ []))) ≡ 3
    go true b = refl
    go false true = refl
    go false false = refl

pub length-port-field : (out ans : List ℕ) (p : ℕ) → length (port_field out ans p) ≡ 4
unfolding port_field
length-port-field out ans p = ap suc (length-field (byte ans p) (byte out (packet_length * p)))

pub length-ports : (out ans : List ℕ) → length (per_port (port_field out ans)) ≡ 20
length-ports out ans = length-ports_below 4 (port_field out ans) 5 (λ p h. length-port-field out ans p)

pub length-tick-text : (t : ℕ) (out ans : List ℕ) → length (tick_text t out ans) ≡ 30
unfolding tick_text
length-tick-text t out ans =
    let ports = per_port (port_field out ans) in
    let count : List ℕ = 32 ∷ decimal 4 (withdrawn_sum ans) in
    rw (length-append (decimal 3 t ++ ports) count, length-append (decimal 3 t) ports, length-decimal 3 t, length-ports out ans, length-decimal 4 (withdrawn_sum ans))

-- ---- no line feed

pub no-feed-append : (a b : List ℕ) → NoFeed a → NoFeed b → NoFeed (a ++ b)
unfolding NoFeed
no-feed-append [] b x y = y
no-feed-append (c ∷ a) b x y = (x.0, no-feed-append a b x.1 y)

pub no-feed-replicate : (k c : ℕ) → c ≢ 10 → NoFeed (replicate k c)
unfolding NoFeed
no-feed-replicate zero c h = tt
no-feed-replicate (suc k) c h = (h, no-feed-replicate k c h)

pub no-feed-decimal : (k v : ℕ) → NoFeed (decimal k v)
unfolding NoFeed decimal
no-feed-decimal zero v = tt
no-feed-decimal (suc k) v = no-feed-append (decimal k (v / 10)) _ (no-feed-decimal k (v / 10)) ((λ e. omega arith), tt)

hex-no-feed : (d : ℕ) → hex d ≢ 10
hex-no-feed d = go (ltb d 10)
  where
    go : (b : Bool) → cond b (48 + d) (55 + d) ≢ 10
    go true e = omega arith
    go false e = omega arith

no-feed-field : (code identifier : ℕ) → NoFeed (field code identifier)
unfolding NoFeed field
no-feed-field code identifier = go (eqb code 0) (eqb code 2) (eqb code 1)
  where
    go : (a b c : Bool) → NoFeed (cond a (45 ∷ 45 ∷ 45 ∷ []) (cond b (98 ∷ 101 ∷ 102 ∷ []) (hex (identifier / 16) ∷ hex (identifier % 16) ∷ cond c 78 69 ∷ [])))
    go true b c = ((λ e. omega arith), ((λ e. omega arith), ((λ e. omega arith), tt)))
    go false true c = ((λ e. omega arith), ((λ e. omega arith), ((λ e. omega arith), tt)))
    go false false true = (hex-no-feed (identifier / 16), (hex-no-feed (identifier % 16), ((λ e. omega arith), tt)))
    go false false false = (hex-no-feed (identifier / 16), (hex-no-feed (identifier % 16), ((λ e. omega arith), tt)))

no-feed-ports : (out ans : List ℕ) (p : ℕ) → NoFeed (ports_below (port_field out ans) p)
unfolding NoFeed ports_below port_field
no-feed-ports out ans zero = tt
no-feed-ports out ans (suc p) = no-feed-append (ports_below (port_field out ans) p) _ (no-feed-ports out ans p) ((λ e. omega arith), no-feed-field _ _)

pub no-feed-tick-text : (t : ℕ) (out ans : List ℕ) → NoFeed (tick_text t out ans)
unfolding NoFeed tick_text
no-feed-tick-text t out ans =
    let ports = per_port (port_field out ans) in
    let count : List ℕ = 32 ∷ decimal 4 (withdrawn_sum ans) in
    let front = no-feed-append (decimal 3 t) ports (no-feed-decimal 3 t) (no-feed-ports out ans 5) in
    ((λ e. omega arith), ((λ e. omega arith), no-feed-append (decimal 3 t ++ ports) count front ((λ e. omega arith), no-feed-decimal 4 (withdrawn_sum ans))))

-- A line that is read up to its line feed.
pub cut_line : (read l rest : List ℕ) → NoFeed l → cut_from read (l ++ (10 ∷ []) ++ rest) ≡ (read ++ l) ∷ cut_from [] rest
unfolding NoFeed cut_from
cut_line read [] rest h = rw (append-nil read)
cut_line read (c ∷ l) rest h = rw (ne_eqb c 10 h.0, cut_line (read ++ (c ∷ [])) l rest h.1, append_snoc read c l)
