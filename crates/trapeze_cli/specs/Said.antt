-- The command that the code has read.
use Rattle.trapeze_cli.specs.declared.forms.Show.{Show as CodeShow}
use Rattle.trapeze_cli.specs.declared.forms.Show.TheVariants as code_show
use Rattle.trapeze_cli.specs.declared.forms.Form.{Form as CodeForm}
use Rattle.trapeze_cli.specs.declared.forms.Form.TheVariants as code_form
use Rattle.trapeze_cli.specs.declared.forms.Command.{Command as CodeCommand}
use Rattle.trapeze_cli.specs.declared.forms.Command.TheVariants as code_command
use Rattle.trapeze_cli.specs.Forms.{Show, Run, Trace, View, Form, Check, Play, Command, Exercise, OnFiles}

abbrev pub said_show : CodeShow → Show
said_show code_show.Run = Run
said_show code_show.Trace = Trace
said_show (code_show.View label) = View label.now

abbrev pub said : CodeForm → Form
said (code_form.Check policy) = Check policy.now
said (code_form.Play show policy events) = Play (said_show show) policy.now events.now

abbrev pub said_command : CodeCommand → Command
said_command (code_command.Exercise number) = Exercise number
said_command (code_command.OnFiles form) = OnFiles (said form)
