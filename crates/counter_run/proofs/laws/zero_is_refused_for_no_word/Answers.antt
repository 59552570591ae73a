use Rattle.counter_run.proofs.Zero.{zero_limit, zero_costly, zero_wide, zero_none}
use Rattle.counter_run.proofs.laws.zero_is_refused_for_no_word.Goals as goal

pub returns : goal.returns
returns c = record {
  limit = λ program w h. zero_limit program w h;
  cost = λ program n w h. zero_costly program n w h;
  wide = λ program n w h. zero_wide program n w h;
  none = λ program n. zero_none program n;
}
