use Rattle.std.proofs.Common.{◌<◌, ◌↔◌, [], length, unsigned_abs, IsTrue, refl, sym, subst, ◌∙◌, arith, true≢false}
use Rattle.coprime_base.specs.Sizes.{sizes}
use Rattle.cert_checker.proofs.Bases.{AreApart, IsApart, apart_cons, none_apart, size_at, sizes_length}
use Rattle.cert_checker.proofs.Walks.{from_start, from_more, from_not, from_end}
use Rattle.cert_checker.proofs.base.is_first.Goals as goal

pub loop-other-init : goal.loop-other-init
loop-other-init c =
    let a = unsigned_abs c.args.number.now.value in
    from_start (AreApart a) (IsApart a) (apart_cons a) _

pub returns-then-not-apart : goal.returns-then-not-apart
returns-then-not-apart c =
    let a = unsigned_abs c.args.number.now.value in
    let ns = c.args.others.now in
    let i = c.loop-other.other-index in
    let within : i < length (sizes ns) =
    omega (arith, c.loop-other-test.true, sizes_length ns) in
    let at = size_at ns i c.loop-other-test.true c.other-item.is in (
      λ t. absurd (true≢false (sym t)),
      λ h. absurd (from_not (AreApart a) (IsApart a) (apart_cons a) (sizes ns) i 0 within
          c.loop-other.invariant
          (λ q. true≢false (sym ((subst (λ b. IsTrue c.is_apart-apart.result ↔ IsApart a b []) at
          c.is_apart-apart.ensures).1 q) ∙ c.if-not-apart.true)) h.1),
    )

pub loop-other-preserved : goal.loop-other-preserved
loop-other-preserved c =
    let a = unsigned_abs c.args.number.now.value in
    let ns = c.args.others.now in
    let i = c.loop-other.other-index in
    let within : i < length (sizes ns) =
    omega (arith, c.loop-other-test.true, sizes_length ns) in
    let at = size_at ns i c.loop-other-test.true c.other-item.is in
    from_more (AreApart a) (IsApart a) (apart_cons a) (sizes ns) i 0 within c.loop-other.invariant
    ((subst (λ b. IsTrue c.is_apart-apart.result ↔ IsApart a b []) at c.is_apart-apart.ensures).0
    c.if-not-apart.false)

pub returns : goal.returns
returns c =
    let a = unsigned_abs c.args.number.now.value in
    let ns = c.args.others.now in
    let all = from_end (AreApart a) (IsApart a) (apart_cons a) (sizes ns) (none_apart a)
    (omega (arith, c.loop-other-test.false, sizes_length ns)) c.loop-other.invariant in
    (λ t. (c.is_above_one-above.ensures.0 c.if-not-above.false, all), λ h. refl)
