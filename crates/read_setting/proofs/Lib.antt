mod Judged
mod ModuleFiles
