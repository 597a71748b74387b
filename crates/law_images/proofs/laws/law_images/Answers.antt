-- An instance that begins with the images of its module.
use Rattle.law_images.proofs.LeadingLemmas.{made_by_images}
use Rattle.law_images.proofs.laws.law_images.Goals as goal

pub returns : goal.returns
returns c = record { made = made_by_images }
