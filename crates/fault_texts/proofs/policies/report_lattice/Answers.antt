use Rattle.fault_texts.proofs.policies.report_lattice.Goals as goal

pub returns-in-UnknownLabel : goal.returns-in-UnknownLabel
returns-in-UnknownLabel g c = rw c.in-UnknownLabel.is c.report_position-in-UnknownLabel.ensures

pub returns-in-Cycle : goal.returns-in-Cycle
returns-in-Cycle g c = rw c.in-Cycle.is c.report_labels.ensures

pub returns-in-NoJoin : goal.returns-in-NoJoin
returns-in-NoJoin g c = rw c.in-NoJoin.is c.report_labels-in-NoJoin.ensures

pub returns-in-NoMeet : goal.returns-in-NoMeet
returns-in-NoMeet g c = rw c.in-NoMeet.is c.report_labels-in-NoMeet.ensures

pub returns-in-NoMemory : goal.returns-in-NoMemory
returns-in-NoMemory g c = rw c.in-NoMemory.is c.say_pieces-in-NoMemory.ensures

pub returns-in-BadName : goal.returns-in-BadName
returns-in-BadName g c = rw c.in-BadName.is c.report_position.ensures

pub returns-in-Repeated : goal.returns-in-Repeated
returns-in-Repeated g c = rw c.in-Repeated.is c.report_position-in-Repeated.ensures
