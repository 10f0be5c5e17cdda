use Rattle.fault_texts.proofs.policies.report_policy.Goals as goal

pub returns-in-WrongKind : goal.returns-in-WrongKind
returns-in-WrongKind g c = rw c.in-WrongKind.is c.report_place-in-WrongKind.ensures

pub returns-in-BadName : goal.returns-in-BadName
returns-in-BadName g c = rw c.in-BadName.is c.report_place-in-BadName.ensures

pub returns-in-UnknownLabel : goal.returns-in-UnknownLabel
returns-in-UnknownLabel g c = rw c.in-UnknownLabel.is c.report_place-in-UnknownLabel.ensures

pub returns-in-UnknownFunction : goal.returns-in-UnknownFunction
returns-in-UnknownFunction g c = rw c.in-UnknownFunction.is c.report_place-in-UnknownFunction.ensures

pub returns-in-OutOfRange : goal.returns-in-OutOfRange
returns-in-OutOfRange g c = rw c.in-OutOfRange.is c.report_place-in-OutOfRange.ensures

pub returns-in-NoMemory : goal.returns-in-NoMemory
returns-in-NoMemory g c = rw c.in-NoMemory.is c.say_pieces-in-NoMemory.ensures

pub returns-in-Extra : goal.returns-in-Extra
returns-in-Extra g c = rw c.in-Extra.is c.report_place.ensures

pub returns-in-Missing : goal.returns-in-Missing
returns-in-Missing g c = rw c.in-Missing.is c.report_place-in-Missing.ensures
