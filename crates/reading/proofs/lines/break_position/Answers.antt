use Rattle.std.proofs.Common.{◌≡◌, suc, ◌+◌, length, None, Some, sym, subst, arith, rules, tests}
use Rattle.std.proofs.lemmas.Iterator.{YieldsList-from_slice}
use Rattle.std.proofs.lemmas.Iterator.Consumers.{nth_from_yields_List, YieldsList-from_enumerate, YieldsList-from_filter}
use Rattle.std.specs.Option.{MatchOption}
use Rattle.reading.specs.LineParts.{behind}
use Rattle.reading.proofs.LineFacts.{behind_few, nth_break}
use Rattle.reading.proofs.lines.break_position.Goals as goal

pub returns-in-Some : goal.returns-in-Some
returns-in-Some g c =
    let breaks = g.E.Element.breaks in
    let part = c.args.part.now in
    let n = c.args.number in
    let item = nth_from_yields_List (Some (c.in-Some.i, c.in-Some.field-0-1)) c.nth.new.self n c.in-Some.ensures.ran (YieldsList-from_filter _ (λ p. breaks p.1) (YieldsList-from_enumerate (YieldsList-from_slice part (cc)) (cc)) c.filter-breaks.ensures.closure (λ x b q k. search (rules, tests))) in
    let at = subst (λ o. MatchOption o (behind breaks (suc n) part ≡ length part) (λ p. p.0 + 1 ≡ 0 + behind breaks (suc n) part)) (sym item) (nth_break breaks 0 n part) in
    record {
      position = omega (arith, at);
      within = omega (arith, at, behind_few breaks (suc n) part);
    }

pub returns-in-None-clause-position : goal.returns-in-None-clause-position
returns-in-None-clause-position g c =
    let breaks = g.E.Element.breaks in
    let part = c.args.part.now in
    let n = c.args.number in
    let none = nth_from_yields_List None c.nth.new.self n c.in-None.ensures.ran (YieldsList-from_filter _ (λ p. breaks p.1) (YieldsList-from_enumerate (YieldsList-from_slice part (cc)) (cc)) c.filter-breaks.ensures.closure (λ x b q k. search (rules, tests))) in
    sym (subst (λ o. MatchOption o (behind breaks (suc n) part ≡ length part) (λ p. p.0 + 1 ≡ 0 + behind breaks (suc n) part)) (sym none) (nth_break breaks 0 n part))
