use Rattle.std.proofs.Common.{◌≡◌, ◌<◌, ◌≤◌, inl, length, refl, sym, ap, subst, ◌∙◌, arith}
use Rattle.std.specs.Prelude.{IfSome, IsNone}
use Rattle.std.proofs.lemmas.Result.{err_from_is_err_and}
use Rattle.closures.specs.Monomials.{monomials_up_to}
use Rattle.closing.specs.LoopMaps.{program_in}
use Rattle.residue_rows.specs.Limits.{most_monomials}
use Rattle.closing.specs.Maps.{AreMapsModulo}
use Rattle.closing.proofs.Beginning.{begun_none, sampled_none}
use Rattle.closing.proofs.KeptMaps.{kept_maps}
use Rattle.closing.proofs.loop_maps.LoopMaps.begin.Goals as goal

pub returns-in_err-monomials-clause-begins : goal.returns-in_err-monomials-clause-begins
returns-in_err-monomials-clause-begins c = λ limit.
    let e = err_from_is_err_and c.from_residual.result c.from_residual.ensures.1 in
    rw (e.1, e.2) (begun_none _ _, begun_none _ _)

pub returns-in_default-clause-begins : goal.returns-in_default-clause-begins
returns-in_default-clause-begins c = λ limit. (
  begun_none _ _,
  subst (λ n. most_monomials < length (monomials_up_to n c.args.degree))
      (c.len.ensures.len ∙ ap length c.names.ensures.names)
      (c.in_ok-monomials.ensures.many (subst IsNone (sym c.in_default.is) refl)),
)

pub residue_maps-requires : goal.residue_maps-requires
residue_maps-requires c = kept_maps c.args.self.now

pub returns-in_err-maps-clause-begins : goal.returns-in_err-maps-clause-begins
returns-in_err-maps-clause-begins c = λ limit.
    let e = err_from_is_err_and c.from_residual-in_err-maps.result
    c.from_residual-in_err-maps.ensures.1 in
    rw (e.1, e.2) (begun_none _ _, begun_none _ _)

pub returns-in_default-2-clause-begins : goal.returns-in_default-2-clause-begins
returns-in_default-2-clause-begins c = λ limit.
    (begun_none _ _, inl (c.in_ok-maps.ensures.none (subst IsNone (sym c.in_default-2.is) refl)))

pub returns-clause-begins : goal.returns-clause-begins
returns-clause-begins c = λ limit.
    let d = c.args.degree in
    let arity = c.len.ensures.len ∙ ap length c.names.ensures.names in
    sampled_none (program_in c.args.self.now) d
    (record {
      monomials = c.in-Some.monomials;
      maps = c.in-Some-2.maps;
      draws = c.new.result;
      echelon = c.new-echelon.result;
      counted = 0;
      taken = 0;
      idle = 0;
    })
    (subst (λ o. IfSome o (λ es. es.items ≡ monomials_up_to c.len.result d)) c.in-Some.is
    c.in_ok-monomials.ensures.all ∙ ap (λ n. monomials_up_to n d) arity)
    (subst (λ o. IfSome o (λ es. length es.items ≤ most_monomials)) c.in-Some.is
    c.in_ok-monomials.ensures.few)
    (subst (λ o. IfSome o (AreMapsModulo (program_in c.args.self.now))) c.in-Some-2.is
    c.in_ok-maps.ensures.maps)
    c.new.ensures
    (let ok = c.in-Some.monomials.ok.0 in
    let width = c.new-echelon.ensures.width ∙ c.len-2.ensures in
    omega (arith, ok, width)) c.new-echelon.ensures.rows
    refl refl refl
