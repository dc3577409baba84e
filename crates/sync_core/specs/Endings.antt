-- How jobs end.
use Rattle.sync_core.specs.declared.ending.Ending.{Ending}
use Rattle.sync_core.specs.declared.ending.Ending.TheVariants.{Fine, Refused}
use Rattle.sync_core.specs.declared.answer.Answer.{Answer}
use Rattle.sync_core.specs.declared.answer.Answer.TheVariants as answer
use Rattle.sync_core.specs.Deeds.{fault_in}

-- with the first refusal: a lock that stays is one where there was none before
abbrev pub released : Ending → Answer → Ending
released (Refused f) a = Refused f
released Fine answer.Done = Fine
released Fine a = Refused (fault_in a)
