use Rattle.std.proofs.Common.{ap, sym}
use Rattle.bk_top.specs.Outside.{status_of}
use Rattle.bk_top.proofs.run_status.status.Goals as goal

pub returns-in-ReadFailed : goal.returns-in-ReadFailed
returns-in-ReadFailed c = sym (ap status_of c.in-ReadFailed.is)

pub returns-in-SomeRefused : goal.returns-in-SomeRefused
returns-in-SomeRefused c = sym (ap status_of c.in-SomeRefused.is)

pub returns-in-NoneRefused : goal.returns-in-NoneRefused
returns-in-NoneRefused c = sym (ap status_of c.in-NoneRefused.is)

pub returns-in-WriteFailed : goal.returns-in-WriteFailed
returns-in-WriteFailed c = sym (ap status_of c.in-WriteFailed.is)

pub returns-in-NoMemory : goal.returns-in-NoMemory
returns-in-NoMemory c = sym (ap status_of c.in-NoMemory.is)

pub returns-in-TooMany : goal.returns-in-TooMany
returns-in-TooMany c = sym (ap status_of c.in-TooMany.is)
