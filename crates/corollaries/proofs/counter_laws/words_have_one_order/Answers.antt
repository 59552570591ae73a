use Rattle.corollaries.proofs.Order.{earlier_irrefl, earlier_total}
use Rattle.corollaries.proofs.Images.{word_one}
use Rattle.corollaries.proofs.counter_laws.words_have_one_order.Goals as goal

pub returns : goal.returns
returns c s =
    record {
      itself = earlier_irrefl;
      total = earlier_total;
      first = λ program p v w f g. word_one program p v w f g;
    }
