-- No refusal has the number 0. Assumes nothing.
use Rattle.std.proofs.Common.{◌≡◌, false, eqb, refl, sym, Result, Ok, Err, IsOk}
use Rattle.layout.specs.Numbers as Calls
use Rattle.layout.specs.declared.Refusal as CallRefusal
use Rattle.layout.specs.declared.Refusal.TheVariants.{Lengths, Settings, Stack, Packets, Masks, Register, Value, Queues}
use Rattle.records.specs.Records as Records
use Rattle.records.specs.declared.Refusal as RecordRefusal
use Rattle.records.specs.declared.Refusal.TheVariants.{Short, UnknownKind, Unused, Occupied}

pub call-number : (why : CallRefusal.Refusal) → eqb (Calls.number_of why) 0 ≡ false
call-number Lengths = refl
call-number Settings = refl
call-number Stack = refl
call-number Packets = refl
call-number Masks = refl
call-number Register = refl
call-number Value = refl
call-number Queues = refl

pub record-number : (why : RecordRefusal.Refusal) → eqb (Records.number_of why) 0 ≡ false
record-number Short = refl
record-number UnknownKind = refl
record-number Unused = refl
record-number Occupied = refl

pub ok-from-number : (answer : Result (Unit {0}) CallRefusal.Refusal) → Calls.answer_of answer ≡ 0 → IsOk answer
ok-from-number (Ok _) e = refl
ok-from-number (Err why) e = absurd (cc (sym (call-number why), e))
