use Rattle.sandbox.specs.Threads.{thread_of, IsReady, waiting, IsWaiting, asked_of}
use Rattle.sandbox.proofs.suspended.Suspended.answer.Goals as goal

pub returns-clause-thread : goal.returns-clause-thread
unfolding thread_of waiting IsWaiting asked_of
returns-clause-thread c m w = c.resume.ensures.thread m c.args.self.asked.name w c.requires.result

pub returns-clause-kept : goal.returns-clause-kept
unfolding IsReady IsWaiting asked_of
returns-clause-kept c m w = c.resume.ensures.ready m c.args.self.asked.name w c.requires.result
