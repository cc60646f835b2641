use Rattle.bus_formats.proofs.Commands.{commands-sent}
use Rattle.bus_formats.proofs.message.commands_are_the_words_with_command_sync.Goals as goal

pub returns : goal.returns
returns c = commands-sent
