mod Ready
mod Stand
