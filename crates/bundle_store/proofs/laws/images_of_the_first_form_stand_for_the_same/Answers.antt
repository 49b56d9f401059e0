use Rattle.side_journal.proofs.Same.{says_still}
use Rattle.bundle_store.proofs.laws.images_of_the_first_form_stand_for_the_same.Goals as goal

pub returns : goal.returns
returns c = λ b j map other stood. record { state = stood.state; says = says_still j stood.state other stood.said; shows = stood.shows }
