use Rattle.std.proofs.Common.{sym}
use Rattle.carbon_words.proofs.HostLemmas.{address_complete, no_address}
use Rattle.carbon_words.proofs.host_reading.address_of.Goals as goal

pub returns-in-Ok : goal.returns-in-Ok
returns-in-Ok c = sym (address_complete c.args.text.now c.in-Ok.address c.in-Ok.ensures.value)

pub returns-in-Err : goal.returns-in-Err
returns-in-Err c = sym (no_address c.args.text.now c.in-Err.ensures.value)
