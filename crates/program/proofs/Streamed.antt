-- What went in and out over the turns made so far, where the reader and the writer say which bytes they have: each turn goes on where the last one stopped, so at the input's end the texts are what is printed of the whole tape.
use Rattle.std.proofs.Common.{ℕ, ◌≡◌, Bool, List, [], ◌∷◌, ◌++◌, None, Some, IfSome, sym, ap, ◌∙◌, subst, append-nil, true, false}
use mathlib.Core.List.{flatten}
use Rattle.std.specs.declared.option.Option.{Option}
use Rattle.std.specs.Io.KnownBytes.{Consumes, Appends, IsAtEnd}
use Rattle.std.proofs.KnownBytes.{Consumes-nil, Consumes-trans, Appends-nil, Appends-trans}
use Rattle.tapes.specs.declared.printing.Style.{Style}
use Rattle.tapes.specs.Blocks.{Between, unread, Turn, turn, looped, ReadsPrintTheTape}
use Rattle.tapes.proofs.Blocks.{looped-then, flatten-then, reads_print_the_tape}
use Rattle.program.specs.Turns.{PrintsTape}

-- Turns before the input's end, over reads that took from `tape` what is not in `left`, have put their texts after `before`, which makes `after`.
pub record Streamed (style : Style) (tape left before after : Option (List ℕ)) (b : Between) : Type 0 where
  pub reads : List (List ℕ)
  pub between : b ≡ (looped style unread reads).left
  pub consumed : Consumes tape left (flatten reads)
  pub written : Appends before after (looped style unread reads).text

pub streamed_none : (style : Style) (tape before : Option (List ℕ)) (b : Between) → b ≡ unread → Streamed style tape tape before before b
unfolding looped flatten
streamed_none style tape before b e = record { reads = []; between = e; consumed = Consumes-nil tape; written = Appends-nil before }

pub streamed_then : {style : Style} {tape left before after : Option (List ℕ)} {b : Between} → Streamed style tape left before after b
    → (ended : Bool) (read text : List ℕ) (q : Between) (next more : Option (List ℕ)) → ended ≡ false → ◌≡◌ {A = Turn} (record { left = q; text = text }) (turn style ended b read) → Consumes left next read → Appends after more text
    → Streamed style tape next before more q
streamed_then {style} {tape} {left} {before} {after} {b} s ended read text q next more is e c a =
    let o = looped style unread s.reads in
    let last : ◌≡◌ {A = Turn} (record { left = q; text = text }) (turn style false o.left read) = e ∙ ap (λ (k : Bool). turn style k b read) is ∙ ap (λ (p : Between). turn style false p read) s.between in
    let both = looped-then style unread s.reads read in
    record {
      reads = s.reads ++ (read ∷ []);
      between = ap (λ (t : Turn). t.left) last ∙ sym (ap (λ (t : Turn). t.left) both);
      consumed = subst (Consumes tape next) (sym (flatten-then s.reads read)) (Consumes-trans tape left next _ _ s.consumed c);
      written = subst (Appends before more) (ap (λ (t : Turn). o.text ++ t.text) last ∙ sym (ap (λ (t : Turn). t.text) both)) (Appends-trans before after more _ _ s.written a);
    }

-- A reader at its end has given all that it had.
given : (tape left : Option (List ℕ)) (bytes : List ℕ) (P : List ℕ → Type 0) → Consumes tape left bytes → IsAtEnd left → P bytes → IfSome tape P
given None left bytes P c e p = tt
given (Some xs) None bytes P c e p = absurd c
given (Some xs) (Some ys) bytes P c e p = subst P (sym (c ∙ ap (λ (l : List ℕ). bytes ++ l) e ∙ append-nil bytes)) p

pub streamed_end : {style : Style} {tape left before after : Option (List ℕ)} {b : Between} → Streamed style tape left before after b
    → (ended : Bool) (read text : List ℕ) (q : Between) (next more : Option (List ℕ)) → ended ≡ true → ◌≡◌ {A = Turn} (record { left = q; text = text }) (turn style ended b read) → Consumes left next read → IsAtEnd next → Appends after more text
    → PrintsTape style tape before more
unfolding ReadsPrintTheTape
streamed_end {style} {tape} {left} {before} {after} {b} s ended read text q next more is e c end a =
    let o = looped style unread s.reads in
    let last : ◌≡◌ {A = Turn} (record { left = q; text = text }) (turn style true o.left read) = e ∙ ap (λ (k : Bool). turn style k b read) is ∙ ap (λ (p : Between). turn style true p read) s.between in
    let whole = ap (λ (t : Turn). o.text ++ t.text) last ∙ reads_print_the_tape style s.reads read in
    given tape next (flatten s.reads ++ read) _ (Consumes-trans tape left next _ _ s.consumed c) end (subst (Appends before more) whole (Appends-trans before after more _ _ s.written a))
