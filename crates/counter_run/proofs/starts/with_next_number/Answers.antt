use Rattle.std.proofs.Common.{◌≡◌, length, vec_len, rules, refl, sym, subst, ◌∙◌}
use Rattle.poly.specs.Seen.{terms_in}
use Rattle.loop_model.specs.View.{program_of}
use Rattle.corollaries.specs.Point.{IsFirstPrefix}
use Rattle.counter_run.specs.Starts.{IsPastNext}
use Rattle.counter_run.proofs.Starting.{fixed_prefix, free_variable, set_variable}
use Rattle.counter_run.proofs.starts.with_next_number.Goals as goal

pub returns-then-is_set-clause-prefix : goal.returns-then-is_set-clause-prefix
returns-then-is_set-clause-prefix c =
    let program = program_of c.args.lp.now in
    let m = length program.names in
    let q = terms_in c.args.image.now in
    let long : length c.args.numbers.items ≡ vec_len c.args.numbers = search rules in
    subst (IsFirstPrefix m q) (sym c.in_ok-with_last.ensures.numbers)
    (fixed_prefix m q c.args.numbers.items c.requires.within c.requires.prefix program refl
    c.requires.fixed
    (set_variable program c.start.result.now c.start.ensures c.len.result
    (length c.args.numbers.items) (c.len.ensures ∙ sym long)
    (c.is_set.ensures.set c.if-is_set.true)))

pub returns-clause-wide : goal.returns-clause-wide
returns-clause-wide c =
    let program = program_of c.args.lp.now in
    let long : length c.args.numbers.items ≡ vec_len c.args.numbers = search rules in
    λ w. record {
      numbers = c.args.numbers.items;
      prefix = c.requires.prefix;
      within = c.requires.within;
      is_free =
          free_variable program c.start.result.now c.start.ensures c.len.result
          (length c.args.numbers.items) (c.len.ensures ∙ sym long)
          (c.is_set.ensures.free c.if-is_set.false);
      next =
          subst (λ m. IsPastNext m (terms_in c.args.image.now) c.args.numbers.items)
          c.requires.arity (c.next_number.ensures.wide w);
    }
