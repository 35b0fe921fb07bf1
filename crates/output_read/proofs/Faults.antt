-- A fault that is handed on.
use Rattle.std.proofs.Common.{◌≡◌, ℕ, Ok, Err, sym, subst}
use Rattle.std.specs.Prelude.{Result}
use Rattle.std.specs.Result.{IsErr, IsErrAnd}
use Rattle.std.specs.Prelude.{IfOk, OnOk}
use Rattle.output_read.proofs.Fitting.{never}
use Rattle.output_read.specs.declared.fault.ReadFault.{ReadFault}
use Rattle.output_read.specs.declared.fault.ReadFault.TheVariants as fault
use Rattle.output_read.specs.Readers.{OnLine}

-- What is said of the line of a fault is weakened, whatever value was asked for.
of-fault : (X Y : Type 0) (e : ReadFault) (P Q : ℕ → Type 0) → ((n : ℕ) → P n → Q n) → OnLine {X = X} (Err e) P → OnLine {X = Y} (Err e) Q
of-fault X Y (fault.Line n) P Q on h = on n h
of-fault X Y (fault.Memory refused) P Q on h = tt

-- a fault that is handed on names the line that it named, with what follows of it
pub on-line : (X Y : Type 0) (r : Result Y ReadFault) (e : ReadFault) (P Q : ℕ → Type 0) → IsErr r × IsErrAnd r (λ x. x ≡ e) → ((n : ℕ) → P n → Q n) → OnLine {X = X} (Err e) P → OnLine r Q
on-line X Y (Ok value) e P Q is on h = absurd (never is.0)
on-line X Y (Err x) e P Q is on h = subst (λ (y : ReadFault). OnLine {X = Y} (Err y) Q) (sym is.1) (of-fault X Y e P Q on h)

-- what is said of the line of a fault is weakened
pub on-map : (Y : Type 0) (r : Result Y ReadFault) (P Q : ℕ → Type 0) → ((n : ℕ) → P n → Q n) → OnLine r P → OnLine r Q
on-map Y (Ok value) P Q on h = tt
on-map Y (Err (fault.Line n)) P Q on h = on n h
on-map Y (Err (fault.Memory refused)) P Q on h = tt

-- what is said of the value of an answer is weakened
pub ok-map : (Y : Type 0) (r : Result Y ReadFault) (P Q : Y → Type 0) → ((value : Y) → P value → Q value) → IfOk r P → IfOk r Q
ok-map Y (Ok value) P Q on h = on value h
ok-map Y (Err e) P Q on h = tt

-- what holds where there is an answer is weakened
pub done-map : (Y : Type 0) (r : Result Y ReadFault) (P Q : Type 0) → (P → Q) → OnOk r P → OnOk r Q
done-map Y (Ok value) P Q on h = on h
done-map Y (Err e) P Q on h = tt
