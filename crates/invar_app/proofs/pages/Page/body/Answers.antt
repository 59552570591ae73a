use Rattle.std.proofs.Common.{sym, ap}
use Rattle.invar_app.specs.HelpPages.{body_of}
use Rattle.invar_app.proofs.pages.Page.body.Goals as goal

pub returns-in-Overview : goal.returns-in-Overview
returns-in-Overview c = sym (ap body_of c.in-Overview.is)

pub returns-in-Member : goal.returns-in-Member
returns-in-Member c = sym (ap body_of c.in-Member.is)

pub returns-in-Decide : goal.returns-in-Decide
returns-in-Decide c = sym (ap body_of c.in-Decide.is)

pub returns-in-Prove : goal.returns-in-Prove
returns-in-Prove c = sym (ap body_of c.in-Prove.is)

pub returns-in-Counter : goal.returns-in-Counter
returns-in-Counter c = sym (ap body_of c.in-Counter.is)
