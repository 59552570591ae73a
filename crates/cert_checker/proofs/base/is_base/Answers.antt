use Rattle.std.proofs.Common.{◌<◌, ◌↔◌, length, IsTrue, refl, sym, subst₂, ◌∙◌, arith, true≢false}
use Rattle.coprime_base.specs.Sizes.{sizes}
use Rattle.expo.specs.Bases.{IsCoprimeBase}
use Rattle.cert_checker.proofs.Bases.{IsFirst, base_cons, no_base, size_at, rest_sizes, sizes_length}
use Rattle.cert_checker.proofs.Walks.{from_more, from_not, from_end}
use Rattle.cert_checker.proofs.base.is_base.Goals as goal

pub returns-then-not-first : goal.returns-then-not-first
returns-then-not-first c =
    let ns = c.args.numbers.now in
    let i = c.loop-i.i in
    let within : i < length (sizes ns) = omega (arith, c.loop-i-test.true, sizes_length ns) in
    let at = size_at ns i c.loop-i-test.true c.index-numbers-i.is in
    let tells = subst₂ (λ a bs. IsTrue c.is_first-first.result ↔ IsFirst a bs) at (rest_sizes ns i)
    c.is_first-first.ensures in (
      λ t. absurd (true≢false (sym t)),
      λ h. absurd (from_not IsCoprimeBase IsFirst base_cons (sizes ns) i 0 within
          c.loop-i.invariant (λ q. true≢false (sym (tells.1 q) ∙ c.if-not-first.true)) h),
    )

pub loop-i-preserved : goal.loop-i-preserved
loop-i-preserved c =
    let ns = c.args.numbers.now in
    let i = c.loop-i.i in
    let within : i < length (sizes ns) = omega (arith, c.loop-i-test.true, sizes_length ns) in
    let at = size_at ns i c.loop-i-test.true c.index-numbers-i.is in
    let tells = subst₂ (λ a bs. IsTrue c.is_first-first.result ↔ IsFirst a bs) at (rest_sizes ns i)
    c.is_first-first.ensures in
    from_more IsCoprimeBase IsFirst base_cons (sizes ns) i 0 within c.loop-i.invariant
    (tells.0 c.if-not-first.false)

pub returns : goal.returns
returns c =
    let ns = c.args.numbers.now in
    let all = from_end IsCoprimeBase IsFirst base_cons (sizes ns) no_base
    (omega (arith, c.loop-i-test.false, sizes_length ns)) c.loop-i.invariant in
    (λ t. all, λ h. refl)
