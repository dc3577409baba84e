use Rattle.sync_core.proofs.Hearing.{answers-are-heard, refusal-tells-nothing, jobs-go-on, stops-in-flight}
use Rattle.sync_core.proofs.law.answers_are_heard.Goals as goal

pub returns-clause-heard : goal.returns-clause-heard
returns-clause-heard c = answers-are-heard

pub returns-clause-refused : goal.returns-clause-refused
returns-clause-refused c = refusal-tells-nothing

pub returns-clause-jobs : goal.returns-clause-jobs
returns-clause-jobs c = jobs-go-on

pub returns-clause-stops : goal.returns-clause-stops
returns-clause-stops c = stops-in-flight
