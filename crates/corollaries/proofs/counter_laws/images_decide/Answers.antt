use Rattle.corollaries.proofs.Images.{letters_of_counter, image_of_counter, counter_of_image, decide_counter}
use Rattle.corollaries.proofs.counter_laws.images_decide.Goals as goal

pub returns : goal.returns
returns c s = record {
  letters = λ program p w h. letters_of_counter program p w h;
  image =
      λ program well p a w all.
      ((λ h. image_of_counter program p w h), (λ n. counter_of_image program p w all well n));
  decided = λ program well p a w. decide_counter program p well w;
}
