use Rattle.std.proofs.Common.{Err, ap, sym, ◌∙◌}
use Rattle.std.proofs.lemmas.List.{length-map}
use Rattle.exponentials.specs.Powers.{negate_if}
use Rattle.frac128.specs.FracMeaning.{fraction_of}
use Rattle.closed_forms.specs.FormInWork.{base_for, value_for}
use Rattle.closed_forms.proofs.Bounding.{made_size, some_exponents, small_exponents}
use Rattle.closed_forms.proofs.form_in_work.FormInWork.value_as_power.Goals as goal

pub returns-in-Ok-clause-power : goal.returns-in-Ok-clause-power
returns-in-Ok-clause-power c = record {
  count = c.in-Ok.ensures.count ∙ sym (length-map c.args.self.now.class.now.base.now.items _);
  is = ap (negate_if c.sign_and_size-negative.result.0) c.in-Ok.ensures.exponents
      ∙ c.sign_and_size-negative.ensures.value;
}

pub returns-in-Ok-clause-small : goal.returns-in-Ok-clause-small
returns-in-Ok-clause-small c =
    let f = c.args.self.now in
    small_exponents (base_for f) f.ready.coprime.0 _ c.sign_and_size-negative.result.1
    (c.in-Ok.ensures.count ∙ sym (length-map f.class.now.base.now.items _))
    c.in-Ok.ensures.exponents

pub unreachable-requires : goal.unreachable-requires
unreachable-requires c =
    let f = c.args.self.now in
    let s = fraction_of c.sign_and_size-negative.result.1 in
    f.within c.requires (λ made.
    let size = made_size (base_for f) _ s (value_for f) c.sign_and_size-negative.ensures.value made
    in
    c.in-Err-NotInBase.ensures.none (ap Err c.in-Err-NotInBase.field-0-is) _
    (some_exponents (base_for f) f.ready.coprime.0 s c.sign_and_size-negative.ensures.positive
    size))
