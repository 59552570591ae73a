use Rattle.std.proofs.Common.{◌≡◌, inl, inr, ⊎_elim, ap, ap₂, sym, ◌∙◌, ◌*◌, length, arith}
use Rattle.std.specs.Prelude.{vec_len}
use Rattle.std.proofs.lemmas.Slice.Zip.{Zip-more, either_empty_from_Zip}
use Rattle.std.proofs.lemmas.List.{length-map}
use Rattle.frac128.specs.FracMeaning.{fraction_of}
use Rattle.poly.specs.Seen.{terms_in, terms_each}
use Rattle.poly.specs.View.{term_of}
use Rattle.expansion.proofs.Counting.{none_above, some_is, count_of, combined_past_term, combined_past_sum, combined_next, combined_all}
use Rattle.expansion.proofs.combination_terms.Given.{Over}
use Rattle.expansion.proofs.combination_terms.Goals as goal
use Rattle.expansion.proofs.combination_terms.Goals.{After-len-in-loop-cofactor}

-- the product of the numbers of terms at this place
product_is : (g : Over) (c : After-len-in-loop-cofactor g)
    → c.len.result * c.len-in-loop-cofactor.result
    ≡ length (terms_in c.in-Some.cofactor.now) * length (terms_in c.in-Some.element.now)
product_is g c =
    ap₂ ◌*◌
    (c.len.ensures ∙ ap vec_len c.terms.ensures ∙ c.in-Some.cofactor.now.terms.ok.0
    ∙ sym (length-map c.in-Some.cofactor.now.terms.items (term_of fraction_of)))
    (c.len-in-loop-cofactor.ensures ∙ ap vec_len c.terms-in-loop-cofactor.ensures
    ∙ c.in-Some.element.now.terms.ok.0
    ∙ sym (length-map c.in-Some.element.now.terms.items (term_of fraction_of)))

pub returns-in_default : goal.returns-in_default
returns-in_default g c =
    let m = Zip-more c.loop-cofactor.cofactor-iterator c.next.new.self c.next.result
    (c.in-Some.cofactor, c.in-Some.element) c.in-Some.is c.next.ensures.steps in
    let is = product_is g (goal.at.returns-in_default g c).After-len-in-loop-cofactor in
    combined_past_term (terms_in c.in-Some.cofactor.now) (terms_in c.in-Some.element.now) _ _ _ _
    c.loop-cofactor.total _ (ap terms_each m.0) (ap terms_each m.1) c.loop-cofactor.invariant.is
    (none_above _ c.product-terms.result
    (count_of _ _ c.product-terms.result is c.product-terms.ensures) c.in_default.not-Some)

pub returns-in_default-sum : goal.returns-in_default-sum
returns-in_default-sum g c =
    let m = Zip-more c.loop-cofactor.cofactor-iterator c.next.new.self c.next.result
    (c.in-Some.cofactor, c.in-Some.element) c.in-Some.is c.next.ensures.steps in
    let is = product_is g (goal.at.returns-in_default-sum g c).After-len-in-loop-cofactor in
    let terms = some_is _ c.in-Some-terms.terms c.product-terms.result
    (count_of _ _ c.product-terms.result is c.product-terms.ensures) c.in-Some-terms.is in
    combined_past_sum (terms_in c.in-Some.cofactor.now) (terms_in c.in-Some.element.now) _ _ _ _
    c.loop-cofactor.total c.in-Some-terms.terms _ (ap terms_each m.0) (ap terms_each m.1)
    c.loop-cofactor.invariant.is terms.0
    (none_above _ c.sum.result c.sum.ensures c.in_default-sum.not-Some)

pub loop-cofactor-preserved : goal.loop-cofactor-preserved
loop-cofactor-preserved g c =
    let m = Zip-more c.loop-cofactor.cofactor-iterator c.next.new.self c.next.result
    (c.in-Some.cofactor, c.in-Some.element) c.in-Some.is c.next.ensures.steps in
    let is = product_is g (goal.at.loop-cofactor-preserved g c).After-len-in-loop-cofactor in
    let terms = some_is _ c.in-Some-terms.terms c.product-terms.result
    (count_of _ _ c.product-terms.result is c.product-terms.ensures) c.in-Some-terms.is in
    let next = some_is _ c.in-Some-sum.next c.sum.result c.sum.ensures c.in-Some-sum.is in
    record {
      is =
          combined_next (terms_in c.in-Some.cofactor.now) (terms_in c.in-Some.element.now) _ _ _ _
          c.loop-cofactor.total c.in-Some-terms.terms c.in-Some-sum.next _ (ap terms_each m.0)
          (ap terms_each m.1) c.loop-cofactor.invariant.is terms.0 next.0;
      few = omega (arith, next.0, next.1);
    }

pub returns : goal.returns
returns g c =
    let e = either_empty_from_Zip c.loop-cofactor.cofactor-iterator c.next.new.self c.next.result
    c.in-None.is c.next.ensures.steps in
    combined_all _ _ c.loop-cofactor.total _
    (⊎_elim (λ p. inl (ap terms_each p)) (λ q. inr (ap terms_each q)) e)
    c.loop-cofactor.invariant.is c.loop-cofactor.invariant.few
