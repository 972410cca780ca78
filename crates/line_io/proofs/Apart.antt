-- Which answers are not others.
use Rattle.std.proofs.Common.{◌≡◌, ℕ, true, false, Some}
use Rattle.line_io.specs.declared.sink.Took.TheVariants.{Took, Failed as WriteFailed}
use Rattle.line_io.specs.declared.source.Got.TheVariants.{Got, End, Failed as ReadFailed}
use Rattle.line_io.specs.declared.reader.LineGot.TheVariants.{End as LineEnd, Fault, TooMuch}
use Rattle.line_io.specs.declared.reader.Stop.TheVariants.{Ended, Faulted}

pub no-yes : {P : Type 0} → false ≡ true → P
no-yes e = absurd (cc)

pub yes-no : {P : Type 0} → true ≡ false → P
yes-no e = absurd (cc)

pub took-failed : {P : Type 0} {n : ℕ} → Took n ≡ WriteFailed → P
took-failed e = absurd (cc)

pub got-failed : {P : Type 0} {n : ℕ} → Got n ≡ ReadFailed → P
got-failed e = absurd (cc)

pub end-failed : {P : Type 0} → End ≡ ReadFailed → P
end-failed e = absurd (cc)

pub end-fault : {P : Type 0} → LineEnd ≡ Fault → P
end-fault e = absurd (cc)

pub much-fault : {P : Type 0} → TooMuch ≡ Fault → P
much-fault e = absurd (cc)

pub stays-fault : {P : Type 0} → Some TooMuch ≡ Some Fault → P
stays-fault e = absurd (cc)

pub ended-faulted : {P : Type 0} → Ended ≡ Faulted → P
ended-faulted e = absurd (cc)
