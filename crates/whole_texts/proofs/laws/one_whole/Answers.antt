use Rattle.whole_texts.proofs.OneWhole.{one_whole}
use Rattle.whole_texts.proofs.laws.one_whole.Goals as goal

pub returns : goal.returns
returns c = one_whole
