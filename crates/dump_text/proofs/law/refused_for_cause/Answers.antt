use Rattle.dump_text.proofs.Causes.{refused_for_cause, due_is_refused}
use Rattle.dump_text.proofs.law.refused_for_cause.Goals as goal

pub returns-clause-cause : goal.returns-clause-cause
returns-clause-cause c = refused_for_cause

pub returns-clause-due : goal.returns-clause-due
returns-clause-due c = due_is_refused
