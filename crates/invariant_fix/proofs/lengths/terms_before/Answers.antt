use Rattle.std.proofs.Common.{◌≡◌, ◌∙◌, sym, ap, length, rules}
use Rattle.std.specs.Prelude.{vec_len}
use Rattle.std.proofs.lemmas.List.{length-map}
use Rattle.frac128.specs.FracMeaning.{fraction_of}
use Rattle.poly.specs.Seen.{terms_in}
use Rattle.poly.specs.View.{term_of}
use Rattle.expansion.proofs.Counting.{terms_none, terms_some}
use Rattle.invariant_fix.proofs.LongLaws.{copied, uncopied}
use Rattle.invariant_fix.proofs.lengths.terms_before.Goals as goal
use Rattle.invariant_fix.proofs.lengths.terms_before.Goals.{After-len-count}

count : (c : After-len-count) → c.len-count.result ≡ length (terms_in c.args.back.now)
count c = c.len-count.ensures ∙ ap vec_len c.terms.ensures ∙ c.args.back.now.terms.ok.0
    ∙ sym (length-map c.args.back.now.terms.items (term_of fraction_of))

pub returns-then-passes : goal.returns-then-passes
returns-then-passes c = copied c.args.passes (terms_in c.args.back.now) c.if-passes.true

pub returns-then-count-eq0 : goal.returns-then-count-eq0
returns-then-count-eq0 c =
    let none : c.len-count.result ≡ 0 = search rules in
    terms_none _ (sym (count (goal.at.returns-then-count-eq0 c).After-len-count) ∙ none) ∙ uncopied
    (terms_in c.args.back.now) c.if-passes.false

pub returns-else-count-eq0 : goal.returns-else-count-eq0
returns-else-count-eq0 c =
    let some : ¬ (c.len-count.result ≡ 0) = search rules in
    let is = count (goal.at.returns-else-count-eq0 c).After-len-count in
    is ∙ terms_some _ (λ h. some (is ∙ h)) ∙ uncopied (terms_in c.args.back.now) c.if-passes.false
