-- Calls that may be refused: what follows where they are not.
use Rattle.std.proofs.Common.{◌≡◌, Some, None, Ok, Option, refl}
use Rattle.std.specs.Option.{option_or}
use Rattle.ballots.specs.declared.refusal.Refusal.{Refusal}
use Rattle.ballots.specs.Loans.{result_of}

-- what is answered is not refused
pub result_of-ok : {A : Type 0} (o : Option Refusal) (a b : A) → result_of o a ≡ Ok b → (o ≡ None) × (a ≡ b)
result_of-ok None a b h = (refl, cc)
result_of-ok (Some e) a b h = absurd (cc)

-- there is neither reason to refuse
pub neither : (first second : Option Refusal) → option_or first second ≡ None → (first ≡ None) × (second ≡ None)
neither None second h = (refl, h)
neither (Some e) second h = absurd (cc)
