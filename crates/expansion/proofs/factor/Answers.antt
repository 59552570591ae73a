use Rattle.std.proofs.Common.{◌≡◌, ◌∙◌, sym, ap, length, rules}
use Rattle.std.specs.Prelude.{vec_len}
use Rattle.std.proofs.lemmas.List.{length-map}
use Rattle.frac128.specs.FracMeaning.{fraction_of}
use Rattle.poly.specs.Seen.{terms_in}
use Rattle.poly.specs.View.{term_of}
use Rattle.expansion.proofs.Counting.{terms_none, terms_some}
use Rattle.expansion.proofs.factor.Goals as goal
use Rattle.expansion.proofs.factor.Goals.{After-len-count}

count : (c : After-len-count) → c.len-count.result ≡ length (terms_in c.args.polynomial.now)
count c = c.len-count.ensures ∙ ap vec_len c.terms.ensures ∙ c.args.polynomial.now.terms.ok.0
    ∙ sym (length-map c.args.polynomial.now.terms.items (term_of fraction_of))

pub returns-then-count-eq0 : goal.returns-then-count-eq0
returns-then-count-eq0 c =
    let none : c.len-count.result ≡ 0 = search rules in
    terms_none (terms_in c.args.polynomial.now)
    (sym (count (goal.at.returns-then-count-eq0 c).After-len-count) ∙ none)

pub returns-else-count-eq0 : goal.returns-else-count-eq0
returns-else-count-eq0 c =
    let some : ¬ (c.len-count.result ≡ 0) = search rules in
    let is = count (goal.at.returns-else-count-eq0 c).After-len-count in
    is ∙ terms_some (terms_in c.args.polynomial.now) (λ h. some (is ∙ h))
