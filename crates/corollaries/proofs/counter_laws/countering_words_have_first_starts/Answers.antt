use Rattle.corollaries.proofs.Images.{some_start, start_one, point_of_start, start_of_point}
use Rattle.corollaries.proofs.counter_laws.countering_words_have_first_starts.Goals as goal

pub returns : goal.returns
returns c s = record {
  some = λ program well p a w h. some_start program p well w h;
  one = λ program p w xs ys f g. start_one program p w xs ys f g;
  point =
      λ program well p a w xs all.
      ((λ f. point_of_start program p w all xs f), (λ f. start_of_point program p w all xs f));
}
