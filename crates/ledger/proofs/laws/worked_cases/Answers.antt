use Rattle.std.proofs.Common.{◌≡◌, ℕ, zero, suc, ◌+◌, ◌/◌, ◌^◌, ◌≤◌, refl, arith, pow_mono}
use Rattle.ledger.specs.Answers.{Shallow}
use Rattle.ledger.proofs.laws.worked_cases.Goals as goal

flat : (d : ℕ) → Shallow 0 d → d ≡ 0
flat zero shallow = refl
flat (suc d) shallow =
    let half : 1 ≤ (suc d + 1) / 2 = omega arith in
    let two : 2 ^ 1 ≤ 2 ^ ((suc d + 1) / 2) = pow_mono half in
    absurd (omega arith)

pub returns : goal.returns
returns c = record { law = record { answers_hold = refl; checks_hold = refl; empty_is_flat = flat }; count = refl }
