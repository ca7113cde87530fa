pub mod EchoHost
