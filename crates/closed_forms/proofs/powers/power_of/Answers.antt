use Rattle.std.proofs.Common.{◌≡◌, length, drop, ap, refl, sym, ◌∙◌}
use Rattle.std.proofs.lemmas.List.{length-map}
use Rattle.coprime_base.specs.Sizes.{sizes}
use Rattle.closed_forms.proofs.Joining.{cut_key, cut_count}
use Rattle.closed_forms.proofs.powers.power_of.Goals as goal

pub returns-clause-count : goal.returns-clause-count
returns-clause-count c =
    let bs = sizes c.args.base.now in
    let count_is : length c.args.base.now ≡ length bs = sym (length-map c.args.base.now _) in
    cut_count bs c.args.mono.now _ _ _ _ (length c.args.base.now) count_is (c.split_at.ensures.back
    ∙ ap (drop 2) (c.as_slice.ensures ∙ c.exponents-list.ensures.exponents))
    c.split_at-2.ensures.front c.split_at-2.ensures.back c.split_at-3.ensures.front _ _
    c.requires.normal c.new-exponents.ensures.items c.in_ok-push_differences.ensures
    ∙ length-map c.args.base.now _

pub returns-clause-key : goal.returns-clause-key
returns-clause-key c =
    let bs = sizes c.args.base.now in
    let count_is : length c.args.base.now ≡ length bs = sym (length-map c.args.base.now _) in
    cut_key bs c.args.mono.now _ _ _ _ (length c.args.base.now) count_is
    (c.split_at.ensures.back ∙ ap (drop 2)
    (c.as_slice.ensures ∙ c.exponents-list.ensures.exponents)) c.split_at-2.ensures.front
    c.split_at-2.ensures.back c.split_at-3.ensures.front _ _ _ c.requires.normal
    c.new-exponents.ensures.items c.in_ok-push_differences.ensures c.exponent.ensures refl
