use Rattle.std.proofs.Common.{◌≡◌, ◌<◌, ◌+◌, length, get_or, refl, ap, ◌∙◌, arith}
use Rattle.std.proofs.lemmas.List.{length_push}
use Rattle.closed_forms.proofs.Placing.{put_last}
use Rattle.closed_forms.proofs.map_in_work.+put.Goals as goal

pub returns : goal.returns
returns t c =
    let g = c.args.group.now in
    let left = c.pop.new.self.items in
    let n : c.len.result ≡ length left = c.len.ensures ∙ c.pop.new.self.ok.0 in
    let size : length c.args.news.items ≡ length left + 1 = ap length c.in-Some.ensures.items
    ∙ length_push left c.in-Some.new in
    let low : c.len.result < length g = omega (arith, n, size, c.requires.count) in
    put_last g c.args.news.items left _ _ c.in-Some.new c.requires.ascending c.in-Some.ensures.items
    c.requires.count
    (ap (λ k. get_or g k 0) n) (c.requires.inside c.len.result 0 low) refl c.put.ensures
