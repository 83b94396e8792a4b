-- `Instance::set_up` meets its contract: it is the call with the settings given, and its state is kept.
use Rattle.sample.proofs.instance.Instance.set_up.Goals as goal

pub returns : goal.returns
returns c = λ s. rw (s.keep.ensures.answer, s.keep.ensures.director, s.keep.ensures.row) s.set_up-outcome.ensures
